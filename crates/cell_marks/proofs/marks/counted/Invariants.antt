use Rattle.std.proofs.Common.{◌≡◌, ◌≤◌, ◌*◌, take}
use Rattle.cell_marks.specs.Marked.{count_of}
use Rattle.cell_marks.proofs.marks.counted.Given as goal

abbrev pub invariant-loop-row : goal.invariant-loop-row
invariant-loop-row l = record {
  value : l.count ≡ count_of (take l.row-index l.rows);
  few : l.count ≤ 4294967295 * l.row-index;
}
