use Rattle.std.proofs.Common.{◌≡◌, drop, is_some}
use Rattle.due_cells.specs.Seen.{row_at}
use Rattle.due_cells.specs.Inputs.{states_of}
use Rattle.due_cells.proofs.cells.Cells.has_states.Given as goal

abbrev pub invariant-loop-component : goal.invariant-loop-component
invariant-loop-component g l = is_some (states_of (row_at l.self l.cycle) (drop l.component-index l.near)) ≡ is_some (states_of (row_at l.self l.cycle) l.near)
