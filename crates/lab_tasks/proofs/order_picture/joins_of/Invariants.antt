use Rattle.std.proofs.Common.{◌≡◌, ◌++◌, drop, None}
use Rattle.lab_tasks.specs.OrderPictures.{joins_after}
use Rattle.lab_tasks.proofs.order_picture.joins_of.Given as goal

abbrev pub invariant-loop-row : goal.invariant-loop-row
invariant-loop-row l = l.joins.items ++ joins_after l.counts l.last (drop l.row-index l.rows) ≡ joins_after l.counts None l.rows
