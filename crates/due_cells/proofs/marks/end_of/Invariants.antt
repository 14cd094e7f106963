use Rattle.std.proofs.Common.{◌≤◌, take, All}
use Rattle.due_cells.proofs.marks.end_of.Given as goal

abbrev pub invariant-loop-range : goal.invariant-loop-range
invariant-loop-range l = All (λ range. range.to ≤ l.end) (take l.range-index l.ranges)
