use Rattle.std.proofs.Common.{option_copied}
use Rattle.state_words.proofs.Passing.{past_more}
use Rattle.state_words.proofs.comparing.past_messages.Goals as goal

pub loop-i-preserved : goal.loop-i-preserved
loop-i-preserved g c =
    let T = g.T.TwoWords in
    past_more T.first T.second c.args.messages.now c.loop-i.i c.index-messages-i.result (option_copied c.args.words) (option_copied c.loop-i.left) (option_copied c.past-left.result) c.loop-i-test.true c.index-messages-i.is c.loop-i.invariant c.past-left.ensures
