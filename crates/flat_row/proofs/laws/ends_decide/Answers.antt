use Rattle.flat_row.proofs.Showing as laws
use Rattle.flat_row.proofs.laws.ends_decide.Goals as goal

pub returns : goal.returns
returns c = laws.ends_decide
