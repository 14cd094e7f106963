use Rattle.std.proofs.Common.{◌&&◌, ◌==◌, nat_le, nat_lt}
use Rattle.due_cells.specs.Marking.{AreMarked}
use Rattle.due_cells.proofs.cells.marking.mark_range.Given as goal

abbrev pub invariant-loop-cycle : goal.invariant-loop-cycle
invariant-loop-cycle l =
    AreMarked l.version l.initial.due l.initial.versions.items l.due l.versions.items (λ t c. (c == l.range.component) && (nat_le l.range.from t && nat_lt t l.cycle))
