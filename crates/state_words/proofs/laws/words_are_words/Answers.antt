use Rattle.state_words.proofs.Saying as laws
use Rattle.state_words.proofs.laws.words_are_words.Goals as goal

pub returns-clause-procs : goal.returns-clause-procs
returns-clause-procs c = laws.procs_are_words

pub returns-clause-modules : goal.returns-clause-modules
returns-clause-modules c = laws.modules_are_words

pub returns-clause-lows : goal.returns-clause-lows
returns-clause-lows c = laws.lows_are_words

pub returns-clause-combs : goal.returns-clause-combs
returns-clause-combs c = laws.combs_are_words
