use Rattle.std.proofs.Common.{◌≡◌, ◌++◌, drop, map, option_map}
use Rattle.std.specs.Arc.{arc_value}
use Rattle.due_cells.specs.Seen.{row_at}
use Rattle.due_cells.specs.Inputs.{states_of}
use Rattle.due_cells.proofs.cells.Cells.share_states.Given as goal

abbrev pub invariant-loop-component : goal.invariant-loop-component
invariant-loop-component g l = option_map (λ rest. map arc_value l.states.items ++ rest) (states_of (row_at l.self l.cycle) (drop l.component-index l.near)) ≡ states_of (row_at l.self l.cycle) l.near
