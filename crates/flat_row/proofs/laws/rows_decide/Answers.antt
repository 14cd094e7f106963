use Rattle.flat_row.proofs.Rowing as laws
use Rattle.flat_row.proofs.laws.rows_decide.Goals as goal

pub returns : goal.returns
returns c = laws.rows_decide
