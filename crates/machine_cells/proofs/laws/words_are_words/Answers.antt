use Rattle.machine_cells.proofs.Telling as laws
use Rattle.machine_cells.proofs.laws.words_are_words.Goals as goal

pub returns-clause-fit : goal.returns-clause-fit
returns-clause-fit c = laws.words_are_words

pub returns-clause-lengths : goal.returns-clause-lengths
returns-clause-lengths c = laws.heads_tell_lengths
