use Rattle.std.proofs.Common.{◌≡◌, ◌+◌, ◌++◌, map, take}
use Rattle.experiments.specs.Orders.{service_at}
use Rattle.experiments.proofs.order.add_services.Given as goal

abbrev pub invariant-loop-tag : goal.invariant-loop-tag
invariant-loop-tag l = l.services.items ≡ l.fn.services.items ++ map (service_at (l.cycle + 1)) (take l.tag-index l.tag-items)
