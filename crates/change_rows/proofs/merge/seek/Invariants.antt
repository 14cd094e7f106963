use Rattle.std.proofs.Common.{◌≤◌, ◌-◌, length, take}
use Rattle.change_rows.specs.Cells.{end_of}
use Rattle.change_rows.proofs.merge.seek.Given as goal

abbrev pub invariant-loop-i : goal.invariant-loop-i
invariant-loop-i l = record {
  order : l.from ≤ l.i;
  within : l.i ≤ length l.cells;
  below : end_of (take l.i l.cells) ≤ l.c;
}

abbrev pub decreases-loop-i : goal.decreases-loop-i
decreases-loop-i l = length l.cells - l.i
