use Rattle.std.proofs.Common.{◌≡◌, ◌+◌, ◌-◌, ◌<◌, ◌≤◌, ◌∙◌, ap, sym, subst, arith}
use Rattle.std.specs.Prelude.{IsSome}
use Rattle.omega_net.specs.Queues.{head}
use Rattle.flat_row.specs.Labels.{port}
use Rattle.flat_row.specs.Masks.{has}
use Rattle.flat_row.specs.Row.{queue_of}
use Rattle.flat_row.specs.Moving.{moved_straight}
use Rattle.flat_row.proofs.Forthing.{partly, entered, enter_waits, forth_waits, forth_more, all_forth}
use Rattle.flat_row.proofs.Passing.{shape_twice}
use Rattle.flat_row.proofs.Staying.{port_stays}
use Rattle.flat_row.proofs.moving.move_forth.Goals as goal

pub move_straight-requires-clause-can : goal.move_straight-requires-clause-can
move_straight-requires-clause-can g c =
    record {
      source = omega (arith, c.requires.levels.many, c.k-k.ensures.value);
      target = omega (arith, c.requires.levels.many, c.k-k.ensures.value);
      apart = λ e. omega (arith, e);
    }

pub move_straight-requires-clause-some : goal.move_straight-requires-clause-some
move_straight-requires-clause-some g c = λ x small has_it.
    subst (λ n. IsSome (head (queue_of c.args.levels.now.items n x))) (sym c.k-k.ensures.value)
    (enter_waits g.T.Routed.route c.args.shape c.args.leave.now c.args.enter c.args.levels.now.items c.requires.some x small has_it)

pub move_straight-requires-clause-there : goal.move_straight-requires-clause-there
move_straight-requires-clause-there g c =
    let a = c.requires.levels.each c.k-k.result (omega (arith, c.k-k.ensures.value)) in
    let b = c.requires.levels.each (c.k-k.result + 1) (omega (arith, c.k-k.ensures.value)) in
    omega (arith, a, b)

pub loop-done-init : goal.loop-done-init
loop-done-init g c = record {
  shape = c.move_straight.ensures.shape;
  queues = λ m z within small.
      let e : c.args.shape ≡ c.args.shape - 0 = omega arith in
      c.move_straight.ensures.queues m z small
      ∙ ap (λ n. moved_straight (has c.args.enter) n (n + 1) c.args.levels.now.items m z) c.k-k.ensures.value
      ∙ entered g.T.Routed.route c.args.shape c.args.leave.now c.args.enter c.args.levels.now.items m z within
      ∙ ap (λ n. partly g.T.Routed.route c.args.shape c.args.leave.now c.args.enter c.args.levels.now.items n m z) e;
}

pub move_heads-requires-clause-can : goal.move_heads-requires-clause-can
move_heads-requires-clause-can g c =
    record {
      source = omega (arith, c.loop-done.invariant.shape.many, c.requires.levels.many, c.k-k.ensures.value, c.loop-done-test.true);
      target = omega (arith, c.loop-done.invariant.shape.many, c.requires.levels.many, c.k-k.ensures.value, c.loop-done-test.true);
      apart = λ e. omega (arith, e);
    }

pub move_heads-requires-clause-by : goal.move_heads-requires-clause-by
move_heads-requires-clause-by g c = omega (arith, c.deciding_bit-by.ensures, c.k-k.ensures.value, c.k-k.ensures.within, c.loop-done-test.true)

pub move_heads-requires-clause-some : goal.move_heads-requires-clause-some
move_heads-requires-clause-some g c = λ x small has_it.
    let few : c.args.shape ≤ 6 = omega (arith, c.k-k.ensures.within, c.k-k.ensures.value) in
    let lt : c.loop-done.done < c.args.shape = omega (arith, c.loop-done-test.true, c.k-k.ensures.value) in
    let s = c.k-k.result - 1 - c.loop-done.done in
    let is : c.k-k.result - 1 - c.loop-done.done ≡ c.args.shape - 1 - c.loop-done.done = ap (λ n. n - 1 - c.loop-done.done) c.k-k.ensures.value in
    forth_waits g.T.Routed.route c.args.shape c.args.leave.now c.args.enter c.args.levels.now.items c.loop-done.done lt few (c.k-k.result - 1 - c.loop-done.done) c.deciding_bit-by.result is c.deciding_bit-by.ensures
    c.loop-done.levels.items c.loop-done.levels.items c.loop-done.invariant.queues c.requires.some x small has_it

pub move_heads-requires-clause-ports : goal.move_heads-requires-clause-ports
move_heads-requires-clause-ports g c = λ x i within h.
    let few : c.args.shape ≤ 6 = omega (arith, c.k-k.ensures.within, c.k-k.ensures.value) in
    let s = c.k-k.result - 1 - c.loop-done.done in
    let a = c.loop-done.invariant.shape.queues (c.k-k.result - 1 - c.loop-done.done) in
    let b = c.loop-done.invariant.shape.queues (c.k-k.result - 1 - c.loop-done.done + 1) in
    let e = c.requires.levels.each (c.k-k.result - 1 - c.loop-done.done) (omega (arith, c.k-k.ensures.value, c.loop-done-test.true)) in
    let f = c.requires.levels.each (c.k-k.result - 1 - c.loop-done.done + 1) (omega (arith, c.k-k.ensures.value, c.loop-done-test.true)) in
    subst (λ n. port c.deciding_bit-by.result i x < n) (sym (b ∙ f))
    (port_stays c.args.shape c.deciding_bit-by.result x i (omega (arith, c.deciding_bit-by.ensures, c.k-k.ensures.value, c.loop-done-test.true)) few h (subst (λ n. x < n) (a ∙ e) within))

pub loop-done-preserved : goal.loop-done-preserved
loop-done-preserved g c =
    let few : c.args.shape ≤ 6 = omega (arith, c.k-k.ensures.within, c.k-k.ensures.value) in
    let lt : c.loop-done.done < c.args.shape = omega (arith, c.loop-done-test.true, c.k-k.ensures.value) in
    let is : c.k-k.result - 1 - c.loop-done.done ≡ c.args.shape - 1 - c.loop-done.done = ap (λ n. n - 1 - c.loop-done.done) c.k-k.ensures.value in
    record {
      shape = shape_twice c.args.levels.now.items c.loop-done.levels.items c.move_heads.new.levels.items c.loop-done.invariant.shape c.move_heads.ensures.shape;
      queues = forth_more g.T.Routed.route c.args.shape c.args.leave.now c.args.enter c.args.levels.now.items c.loop-done.done lt few (c.k-k.result - 1 - c.loop-done.done) c.deciding_bit-by.result is c.deciding_bit-by.ensures
          c.loop-done.levels.items c.move_heads.new.levels.items c.loop-done.invariant.queues c.move_heads.ensures.queues;
    }

pub returns-clause-shape : goal.returns-clause-shape
returns-clause-shape g c = c.loop-done.invariant.shape

pub returns-clause-queues : goal.returns-clause-queues
returns-clause-queues g c = λ l z within small.
    let e : c.args.shape - c.loop-done.done ≡ 0 = omega (arith, c.loop-done-test.false, c.k-k.ensures.value) in
    c.loop-done.invariant.queues l z within small
    ∙ ap (λ n. partly g.T.Routed.route c.args.shape c.args.leave.now c.args.enter c.args.levels.now.items n l z) e
    ∙ all_forth g.T.Routed.route c.args.shape c.args.leave.now c.args.enter c.args.levels.now.items l z
