use Rattle.std.proofs.Common.{◌≤◌, take, All}
use Rattle.due_cells.proofs.marks.first_of.Given as goal

abbrev pub invariant-loop-range : goal.invariant-loop-range
invariant-loop-range l = All (λ range. l.first ≤ range.from) (take l.range-index l.ranges)
