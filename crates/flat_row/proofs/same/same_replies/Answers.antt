use Rattle.std.proofs.lemmas.Slice.Eq.{slice_eq-Decides}
use Rattle.omega_net.proofs.Same.{reply_decides}
use Rattle.flat_row.proofs.same.same_replies.Goals as goal

pub returns : goal.returns
returns c = slice_eq-Decides reply_decides c.args.replies.now c.args.others.now c.eq.result c.eq.ensures
