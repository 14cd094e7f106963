use Rattle.flat_row.proofs.Showing as laws
use Rattle.flat_row.proofs.laws.stages_decide.Goals as goal

pub returns : goal.returns
returns c = laws.stages_decide
