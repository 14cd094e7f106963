use Rattle.std.proofs.Common.{ap}
use Rattle.flat_row.specs.Row.{Network}
use Rattle.flat_row.proofs.side.Side.turn.Goals as goal

pub returns-clause-requests : goal.returns-clause-requests
returns-clause-requests c = ap (λ (n : Network). n.requests) c.self.view_is

pub returns-clause-replies : goal.returns-clause-replies
returns-clause-replies c = ap (λ (n : Network). n.replies) c.self.view_is
