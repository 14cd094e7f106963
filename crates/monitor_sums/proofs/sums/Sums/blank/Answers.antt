use Rattle.std.proofs.Common.{arith}
use Rattle.monitor_sums.proofs.Starting.{blank_is}
use Rattle.monitor_sums.proofs.sums.Sums.blank.Goals as goal

pub invariant_of-result : goal.invariant_of-result
invariant_of-result c =
    blank_is c.args.shape c.args.last c.components-components.result c.blocks-blocks.result c.k.result c.in_ok-no_counts.field-0.items c.in_ok-filled.field-0.items c.in_ok-filled-2.field-0.items
    c.in_ok-filled-3.field-0.items c.zero.result c.zero-2.result (omega arith) c.requires c.components-components.ensures.value c.blocks-blocks.ensures c.k.ensures.value
    c.in_ok-no_counts.ensures c.in_ok-filled.ensures c.zero.ensures c.in_ok-filled-2.ensures c.zero-2.ensures c.in_ok-filled-3.ensures
