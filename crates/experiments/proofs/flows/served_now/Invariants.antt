use Rattle.std.proofs.Common.{◌≡◌, ◌≤◌}
use Rattle.experiments.proofs.Counting.{served_by}
use Rattle.experiments.proofs.flows.served_now.Given as goal

abbrev pub invariant-loop-m : goal.invariant-loop-m
invariant-loop-m l = (l.sum ≡ served_by l.project l.runner.cycle l.m) × (l.sum ≤ l.m)
