use Rattle.std.proofs.Common.{◌-◌, ◌≤◌}
use Rattle.flat_row.proofs.Ending.{PartlyAnswered}
use Rattle.flat_row.proofs.serving.answer.Given as goal

abbrev pub invariant-loop-m : goal.invariant-loop-m
invariant-loop-m l = record {
  within : l.next ≤ 64;
  partly : PartlyAnswered l.modules l.next l.answers l.initial.level l.level;
}

abbrev pub decreases-loop-m : goal.decreases-loop-m
decreases-loop-m l = 64 - l.next
