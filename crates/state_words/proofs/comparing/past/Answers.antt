use Rattle.std.proofs.Common.{option_copied}
use Rattle.state_words.proofs.Passing.{past_two}
use Rattle.state_words.proofs.comparing.past.Goals as goal

pub returns : goal.returns
returns g c =
    let T = g.T.TwoWords in
    past_two (option_copied c.args.words) (option_copied c.past_word.result) (option_copied c.past_word-2.result) (T.first c.args.message.now) (T.second c.args.message.now) c.first.result c.second.result c.first.ensures c.second.ensures c.past_word.ensures c.past_word-2.ensures
