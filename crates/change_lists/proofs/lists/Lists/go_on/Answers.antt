use Rattle.std.proofs.Common.{ℕ, ◌<◌, arith, length, length-set}
use Rattle.change_lists.proofs.Standing.{none_set}
use Rattle.change_lists.proofs.lists.Lists.go_on.Goals as goal

pub invariant_of-self : goal.invariant_of-self
invariant_of-self g c =
    let i = c.self.inside in
    let there : c.args.c < length i.lists.items = rw (← c.self.view_is) at c.requires.component in
    let none = λ (d : ℕ). none_set i.lists.items c.args.c d c.go_on.new.self c.index_mut.result.now there c.index_mut.ensures.value c.go_on.ensures.nothing in
    let len = length-set i.lists.items c.args.c c.go_on.new.self in (
      omega (arith, len, c.self.invariant.0),
      omega (arith, len, c.self.invariant.1),
      λ d h. none d (c.self.invariant.2 d h),
      λ d h. none d (c.self.invariant.3 d h),
    )
