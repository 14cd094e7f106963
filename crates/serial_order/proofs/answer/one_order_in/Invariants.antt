use Rattle.std.proofs.Common.{◌≡◌}
use Rattle.serial_order.proofs.OneList.{one_before}
use Rattle.serial_order.proofs.answer.one_order_in.Given as goal

abbrev pub invariant-loop-cycle : goal.invariant-loop-cycle
invariant-loop-cycle g l = l.tags.items ≡ one_before l.project l.cycle
