use Rattle.std.proofs.Common.{take}
use Rattle.due_cells.specs.Marking.{AreMarked}
use Rattle.due_cells.specs.Ranges.{is_marked_else}
use Rattle.due_cells.proofs.cells.marking.mark_others.Given as goal

abbrev pub invariant-loop-range : goal.invariant-loop-range
invariant-loop-range l =
    AreMarked l.version l.initial.due l.initial.versions.items l.due l.versions.items (λ t c. is_marked_else (take l.range-index l.ranges) l.to t c)
