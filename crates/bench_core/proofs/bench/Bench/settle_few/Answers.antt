use Rattle.std.proofs.Common.{rules, ◌≡◌, subst, true, Some}
use Rattle.bench_core.specs.Shown.{project_of}
use Rattle.bench_core.specs.Settled.{IsPartlySettledFrom}
use Rattle.bench_core.specs.Answering.{has_few_due}
use Rattle.bench_core.proofs.Answering.{settled_part, settles_few}
use Rattle.bench_core.proofs.bench.Bench.settle_few.Goals as goal

pub returns-clause-settles : goal.returns-clause-settles
returns-clause-settles c =
    let d = c.args.self.now in
    let next = c.settle_to.new.self in
    let few : has_few_due d ≡ true = search rules in
    let to : c.horizon-horizon.result ≡ (project_of d).horizon = rw c.project.ensures at c.horizon-horizon.ensures.horizon in
    settles_few d next few (subst (λ last. IsPartlySettledFrom (Some last) d next) to (settled_part d next c.horizon-horizon.result c.settle_to.result c.settle_to.ensures.headline_settles c.settle_to.ensures.after_fault))
