use Rattle.std.proofs.Common.{arith}
use Rattle.change_lists.proofs.Standing.{none_cut}
use Rattle.change_lists.proofs.lists.Lists.truncate.Goals as goal

pub invariant_of-self : goal.invariant_of-self
invariant_of-self g c =
    let i = c.loop-c.invariant in
    let v = c.self.invariant in (
      omega (arith, i.width, v.0),
      omega (arith, i.width, i.high, v.1),
      λ d h. none_cut c.self.inside.lists.items c.loop-c.self-inside.lists.items d c.args.n c.loop-c.c i.done i.rest (v.2 d (omega (arith, h, i.low))),
      λ d h. none_cut c.self.inside.lists.items c.loop-c.self-inside.lists.items d c.args.n c.loop-c.c i.done i.rest (v.3 d (omega (arith, h, i.high))),
    )
