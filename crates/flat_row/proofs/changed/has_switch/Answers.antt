use Rattle.std.proofs.Common.{◌≤◌, arith}
use Rattle.flat_row.proofs.Processing.{label_small}
use Rattle.flat_row.proofs.changed.has_switch.Goals as goal

pub has-requires : goal.has-requires
has-requires c =
    let few : c.args.shape ≤ 6 = omega (arith, c.k-k.ensures.within, c.k-k.ensures.value) in
    label_small few c.label_of-x.ensures.within
