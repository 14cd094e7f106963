use Rattle.machine_cells.proofs.Telling as laws
use Rattle.machine_cells.proofs.laws.words_tell.Goals as goal

pub returns-clause-states : goal.returns-clause-states
returns-clause-states c = laws.words_tell

pub returns-clause-same_memory : goal.returns-clause-same_memory
returns-clause-same_memory c = laws.words_are_states
