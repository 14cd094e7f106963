use Rattle.machine_cells.proofs.laws.runs_are_one.Goals as goal
use Rattle.machine_cells.proofs.Runs as laws

pub returns : goal.returns
returns c = laws.runs_are_one
