use Rattle.change_rows.proofs.Joined.{same_one, none_but}
use Rattle.change_rows.proofs.sets.other_at.Goals as goal

pub returns-clause-same : goal.returns-clause-same
returns-clause-same c = λ d here e. same_one c.args.one.now c.args.other.now c.args.but.now c.args.w c.word_at-word.result c.word_at.result c.word_at-2.result c.word_at-word.ensures c.word_at.ensures c.word_at-2.ensures d here e

pub returns-clause-none : goal.returns-clause-none
returns-clause-none c = λ d here e. none_but c.args.one.now c.args.other.now c.args.but.now c.args.w c.word_at-word.result c.word_at.result c.word_at-2.result c.word_at-word.ensures c.word_at.ensures c.word_at-2.ensures d here e
