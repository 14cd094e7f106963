use Rattle.flat_row.proofs.Turning as laws
use Rattle.flat_row.proofs.laws.rows_turn.Goals as goal

pub returns : goal.returns
returns c = laws.rows_turn
