use Rattle.machine_cells.proofs.laws.steps_are_parts.Goals as goal
use Rattle.machine_cells.proofs.Rows as rows

pub returns-clause-starts : goal.returns-clause-starts
returns-clause-starts c = rows.starts_are_parts

pub returns-clause-steps : goal.returns-clause-steps
returns-clause-steps c = rows.cells_are_parts
