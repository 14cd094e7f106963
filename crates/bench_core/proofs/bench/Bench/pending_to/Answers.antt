use Rattle.std.proofs.Common.{ap, arith}
use Rattle.bench_core.specs.Shown.{Shown, project_of}
use Rattle.bench_core.proofs.bench.Bench.pending_to.Goals as goal

pub returns-clause-count : goal.returns-clause-count
returns-clause-count c = rw (← c.is_bench.ensures.bench.horizon, ← c.self.view_is) c.due_to.ensures.count

pub returns-clause-ready : goal.returns-clause-ready
returns-clause-ready c =
    let end = ap (λ (b : Shown). (project_of b).horizon) c.self.view_is in
    rw (← c.self.view_is) (λ none t k le lt. c.due_to.ensures.run none t k le (record { cycle = omega (arith, c.requires, c.self.invariant.0.horizon, end); component = lt }))
