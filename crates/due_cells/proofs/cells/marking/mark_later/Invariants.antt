use Rattle.std.proofs.Common.{◌&&◌, nat_le, nat_lt}
use Rattle.cell_states.specs.Near.{has}
use Rattle.due_cells.specs.Marking.{AreMarked}
use Rattle.due_cells.proofs.cells.marking.mark_later.Given as goal

abbrev pub invariant-loop-cycle : goal.invariant-loop-cycle
invariant-loop-cycle l =
    AreMarked l.version l.initial.due l.initial.versions.items l.due l.versions.items (λ t c. has l.list c && (nat_le 1 t && nat_lt t l.cycle))
