use Rattle.std.proofs.Common.{◌≡◌, filter, take}
use Rattle.experiments.specs.Orders.{is_shown}
use Rattle.experiments.proofs.order.rows_shown.Given as goal

abbrev pub invariant-loop-row : goal.invariant-loop-row
invariant-loop-row l = l.shown.items ≡ filter (is_shown l.window.from l.window.to) (take l.row-index l.rows)
