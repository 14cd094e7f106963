use Rattle.std.proofs.Common.{arith}
use Rattle.std.proofs.lemmas.Bool.{false≢true}
use Rattle.std.proofs.lemmas.List.{length-map}
use Rattle.std.specs.Arc.{arc_value}
use Rattle.due_cells.specs.Seen.{row_at}
use Rattle.due_cells.proofs.States.{length_states_of}
use Rattle.due_cells.proofs.cells.are_held.Goals as goal

pub returns-then-near-states : goal.returns-then-near-states
returns-then-near-states g c =
    (λ e. absurd (false≢true e), λ e. absurd (omega (arith, length_states_of (row_at c.args.cells.now c.args.cycle) c.args.near.now _ e, length-map c.args.states.now arc_value)))
