use Rattle.std.proofs.Common.{◌-◌, ◌≤◌}
use Rattle.flat_row.proofs.Ending.{PartlyReceived}
use Rattle.flat_row.proofs.acting.receive.Given as goal

abbrev pub invariant-loop-p : goal.invariant-loop-p
invariant-loop-p l = record {
  within : l.next ≤ 64;
  partly : PartlyReceived l.set l.next l.initial.level l.level (record { set = l.set; at = l.at });
}

abbrev pub decreases-loop-p : goal.decreases-loop-p
decreases-loop-p l = 64 - l.next
