use Rattle.std.proofs.Common.{◌∙◌, arith}
use Rattle.change_lists.specs.Changes.{list_at, held_at as memory_at}
use Rattle.cell_states.proofs.Coded.{stands}
use Rattle.cell_states.proofs.Changed.{before_is}
use Rattle.cell_states.proofs.states.sets.add_begun_in.Goals as goal

pub returns-else-next-to-clause-here : goal.returns-else-next-to-clause-here
returns-else-next-to-clause-here g c = λ _.
    let m = c.args.memories.now in
    let d = c.args.c in
    stands (λ u. memory_at m d u) c.args.from c.next.result
    (λ u h k. c.next.ensures.steady u (omega (arith, h)) k ∙ before_is (list_at m d) u (omega (arith, h)))
    c.args.to c.requires.order (omega (arith, c.if-next-to.false))
