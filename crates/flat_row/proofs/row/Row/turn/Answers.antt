use Rattle.std.proofs.Common.{◌≤◌, ◌^◌, arith}
use Rattle.std.proofs.Math.Pow.{pow_mono}
use Rattle.flat_row.proofs.row.Row.turn.Goals as goal

pub has-requires : goal.has-requires
has-requires c =
    let most : 2 ^ c.args.self.now.k ≤ 2 ^ 6 = pow_mono c.is_row.ensures.small in
    omega (arith, c.requires, most)
