use Rattle.std.proofs.lemmas.Slice.Eq.{slice_eq-Decides}
use Rattle.omega_net.proofs.Same.{request_decides}
use Rattle.flat_row.proofs.same.same_requests.Goals as goal

pub returns : goal.returns
returns c = slice_eq-Decides request_decides c.args.requests.now c.args.others.now c.eq.result c.eq.ensures
