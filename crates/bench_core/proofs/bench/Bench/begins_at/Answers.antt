use Rattle.std.proofs.Common.{◌≡◌, suc, ◌∙◌, sym, subst, arith, Some}
use Rattle.bench_core.specs.Shown.{project_of, held}
use Rattle.bench_core.specs.Seeking.{replied_in}
use Rattle.bench_core.proofs.Seeking.{told_within}
use Rattle.bench_core.proofs.bench.Bench.begins_at.Goals as goal

pub returns-in-Some-clause-within : goal.returns-in-Some-clause-within
returns-in-Some-clause-within c =
    let b = c.args.self.now in
    let end : c.horizon-horizon.result ≡ (project_of b).horizon = rw c.project.ensures at c.horizon-horizon.ensures.horizon in
    let told : replied_in (λ t. held b.table t c.args.proc) c.args.issue (suc (project_of b).horizon) ≡ Some c.in-Some.received =
    subst (λ n. replied_in (λ t. held b.table t c.args.proc) c.args.issue (suc n) ≡ Some c.in-Some.received) end (sym c.replied_by.ensures ∙ c.in-Some.is) in
    let before = told_within (λ t. held b.table t c.args.proc) c.args.issue (suc (project_of b).horizon) c.in-Some.received told in
    omega (arith, before)
