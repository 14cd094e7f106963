use Rattle.std.proofs.Common.{◌≡◌}
use Rattle.benchmarks.proofs.load.hot_spot.Given as goal

abbrev pub invariant-loop-proc : goal.invariant-loop-proc
invariant-loop-proc l = record {
  k : l.project.k ≡ l.k;
  horizon : l.project.horizon ≡ l.horizon;
}

abbrev pub invariant-loop-stage : goal.invariant-loop-stage
invariant-loop-stage l = record {
  k : l.project.k ≡ l.k;
  horizon : l.project.horizon ≡ l.horizon;
}
