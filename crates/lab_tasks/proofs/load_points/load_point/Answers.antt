use Rattle.std.proofs.Common.{◌≡◌, ℕ, refl, sym, subst, rules}
use Rattle.experiments.specs.Traffic.{IsTraffic}
use Rattle.lab_tasks.proofs.load_points.load_point.Goals as goal

pub returns-clause-point : goal.returns-clause-point
returns-clause-point c =
    let given : IsTraffic c.args.offer c.in-Ok.traffic = rw c.in-Ok.is at c.requires in
    let same : c.in-Ok-try_from.answered ≡ c.in-Ok.traffic.answered = search rules in
    (refl, subst (λ (n : ℕ). IsTraffic c.args.offer (record c.in-Ok.traffic { answered = n })) (sym same) given)
