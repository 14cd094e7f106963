use Rattle.std.proofs.Common.{option_copied}
use Rattle.state_words.proofs.Passing.{past_there}
use Rattle.state_words.proofs.comparing.past_option.Goals as goal

pub returns-in-Some : goal.returns-in-Some
returns-in-Some g c =
    let T = g.T.TwoWords in
    past_there T.first T.second c.args.message.now c.in-Some.message (option_copied c.args.words) (option_copied c.past.result) c.in-Some.is c.past.ensures
