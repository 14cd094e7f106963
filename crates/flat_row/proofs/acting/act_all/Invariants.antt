use Rattle.std.proofs.Common.{◌-◌, ◌≤◌}
use Rattle.flat_row.proofs.Processing.{PartlyActed}
use Rattle.flat_row.proofs.acting.act_all.Given as goal

abbrev pub invariant-loop-p : goal.invariant-loop-p
invariant-loop-p l = record {
  within : l.next ≤ 64;
  partly : PartlyActed l.project l.next l.low_got l.comb_got l.rests l.initial.procs.items l.procs.items l.initial.low l.low l.initial.comb l.comb;
}

abbrev pub decreases-loop-p : goal.decreases-loop-p
decreases-loop-p l = 64 - l.next
