use Rattle.std.proofs.Common.{◌≡◌, ◌+◌, ◌-◌, ◌≤◌}
use Rattle.run_queries.specs.Answers.{issued}
use Rattle.bench_core.specs.Shown.{held}
use Rattle.bench_core.proofs.bench.Bench.has_issued.Given as goal

abbrev pub invariant-loop-cycle : goal.invariant-loop-cycle
invariant-loop-cycle l = record {
  is : l.count ≡ issued (λ t. held l.self.table t l.proc) l.cycle;
  few : l.count ≤ l.cycle;
  within : l.cycle ≤ l.last + 1;
}

abbrev pub decreases-loop-cycle : goal.decreases-loop-cycle
decreases-loop-cycle l = l.last + 1 - l.cycle
