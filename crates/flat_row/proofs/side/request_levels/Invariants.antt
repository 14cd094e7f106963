use Rattle.std.proofs.Common.{◌≡◌}
use Rattle.flat_row.specs.Row.{first_requests}
use Rattle.flat_row.proofs.side.request_levels.Given as goal

abbrev pub invariant-loop-level : goal.invariant-loop-level
invariant-loop-level l = l.levels.items ≡ first_requests l.project l.net l.level
