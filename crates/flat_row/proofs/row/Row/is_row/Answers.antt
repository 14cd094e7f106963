use Rattle.std.proofs.Common.{subst}
use Rattle.flat_row.specs.Row.{IsRow}
use Rattle.flat_row.proofs.row.Row.is_row.Goals as goal

pub returns : goal.returns
returns c = subst IsRow c.self.view_is c.self.invariant
