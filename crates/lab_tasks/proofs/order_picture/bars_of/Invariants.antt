use Rattle.std.proofs.Common.{◌≡◌, take}
use Rattle.std.specs.List.{flat_map}
use Rattle.lab_tasks.specs.OrderPictures.{bar_of}
use Rattle.lab_tasks.proofs.order_picture.bars_of.Given as goal

abbrev pub invariant-loop-row : goal.invariant-loop-row
invariant-loop-row l = l.bars.items ≡ flat_map (bar_of l.counts l.words l.last) (take l.row-index l.rows)
