use Rattle.std.proofs.Common.{◌≡◌}
use Rattle.flat_row.specs.Row.{first_replies}
use Rattle.flat_row.proofs.side.reply_levels.Given as goal

abbrev pub invariant-loop-level : goal.invariant-loop-level
invariant-loop-level l = l.levels.items ≡ first_replies l.project l.net l.level
