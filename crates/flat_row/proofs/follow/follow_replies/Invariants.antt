use Rattle.flat_row.specs.Row.{reply_rule}
use Rattle.flat_row.proofs.Following.{PartlyFollows}
use Rattle.flat_row.proofs.follow.follow_replies.Given as goal

abbrev pub invariant-loop-l : goal.invariant-loop-l
invariant-loop-l l = PartlyFollows (reply_rule l.project l.net) l.l l.initial.levels.items l.levels.items
