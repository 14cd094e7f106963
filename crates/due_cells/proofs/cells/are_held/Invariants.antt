use Rattle.std.proofs.Common.{◌≡◌, ◌↔◌, Some, drop, map}
use Rattle.std.specs.Arc.{arc_value}
use Rattle.due_cells.specs.Seen.{row_at}
use Rattle.due_cells.specs.Inputs.{states_of}
use Rattle.due_cells.proofs.cells.are_held.Given as goal

abbrev pub invariant-loop-i : goal.invariant-loop-i
invariant-loop-i g l =
    (states_of (row_at l.cells l.cycle) (drop l.i l.near) ≡ Some (map arc_value (drop l.i l.states))) ↔ (states_of (row_at l.cells l.cycle) l.near ≡ Some (map arc_value l.states))
