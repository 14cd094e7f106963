use Rattle.std.proofs.Common.{◌≡◌, ◌+◌, ◌-◌, ◌≤◌, None}
use Rattle.run_queries.specs.Answers.{first_reply}
use Rattle.bench_core.specs.Shown.{held}
use Rattle.bench_core.proofs.bench.Bench.first_reply.Given as goal

abbrev pub invariant-loop-cycle : goal.invariant-loop-cycle
invariant-loop-cycle l = record {
  none : first_reply (λ t. held l.self.table t l.proc) l.issue l.cycle ≡ None;
  within : l.cycle ≤ l.last + 1;
}

abbrev pub decreases-loop-cycle : goal.decreases-loop-cycle
decreases-loop-cycle l = l.last + 1 - l.cycle
