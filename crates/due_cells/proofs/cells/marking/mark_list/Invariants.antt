use Rattle.std.proofs.Common.{◌&&◌, ◌==◌, take}
use Rattle.cell_states.specs.Near.{has}
use Rattle.due_cells.specs.Marking.{AreMarked}
use Rattle.due_cells.proofs.cells.marking.mark_list.Given as goal

abbrev pub invariant-loop-component : goal.invariant-loop-component
invariant-loop-component l =
    AreMarked l.version l.initial.due l.initial.versions.items l.due l.versions.items (λ t c. (t == l.cycle) && has (take l.component-index l.components) c)
