use Rattle.std.proofs.Common.{◌≡◌, false, take}
use Rattle.std.specs.List.{list_any}
use Rattle.cell_states.specs.Filling.{is_awake}
use Rattle.due_cells.proofs.readers.has_any.Given as goal

abbrev pub invariant-loop-component : goal.invariant-loop-component
invariant-loop-component l = list_any (is_awake l.changes) (take l.component-index l.components) ≡ false
