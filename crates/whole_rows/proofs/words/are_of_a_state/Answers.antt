use Rattle.whole_rows.proofs.Fitting.{told_fits}
use Rattle.whole_rows.proofs.words.are_of_a_state.Goals as goal

pub returns : goal.returns
returns c = told_fits c.args.words.now c.are_words.ensures
