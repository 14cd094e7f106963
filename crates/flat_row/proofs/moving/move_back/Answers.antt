use Rattle.std.proofs.Common.{◌≡◌, ◌+◌, ◌<◌, ◌≤◌, ◌∙◌, ap, sym, subst, arith}
use Rattle.flat_row.specs.Labels.{port}
use Rattle.flat_row.proofs.Backing.{partly_back, none_back, back_waits, back_more, all_back}
use Rattle.flat_row.proofs.Passing.{shape_same, shape_twice}
use Rattle.flat_row.proofs.Staying.{port_stays}
use Rattle.flat_row.proofs.moving.move_back.Goals as goal

pub loop-stage-init : goal.loop-stage-init
loop-stage-init g c = record {
  shape = shape_same c.args.levels.now.items;
  queues = λ m z within small. none_back g.T.Routed.route c.args.shape c.args.leave.now c.args.levels.now.items m z;
}

pub move_heads-requires-clause-can : goal.move_heads-requires-clause-can
move_heads-requires-clause-can g c =
    record {
      source = omega (arith, c.loop-stage.invariant.shape.many, c.requires.levels.many, c.k-stage-end.ensures.value, c.loop-stage-test.true);
      target = omega (arith, c.loop-stage.invariant.shape.many, c.requires.levels.many, c.k-stage-end.ensures.value, c.loop-stage-test.true);
      apart = λ e. omega (arith, e);
    }

pub move_heads-requires-clause-by : goal.move_heads-requires-clause-by
move_heads-requires-clause-by g c = omega (arith, c.deciding_bit-by.ensures, c.k-stage-end.ensures.value, c.k-stage-end.ensures.within, c.loop-stage-test.true)

pub move_heads-requires-clause-some : goal.move_heads-requires-clause-some
move_heads-requires-clause-some g c = λ x small has_it.
    let few : c.args.shape ≤ 6 = omega (arith, c.k-stage-end.ensures.within, c.k-stage-end.ensures.value) in
    let lt : c.loop-stage.stage < c.args.shape = omega (arith, c.loop-stage-test.true, c.k-stage-end.ensures.value) in
    back_waits g.T.Routed.route c.args.shape c.args.leave.now c.args.levels.now.items c.loop-stage.stage lt few c.deciding_bit-by.result c.deciding_bit-by.ensures
    c.loop-stage.levels.items c.loop-stage.levels.items c.loop-stage.invariant.queues c.requires.some x small has_it

pub move_heads-requires-clause-ports : goal.move_heads-requires-clause-ports
move_heads-requires-clause-ports g c = λ x i within h.
    let few : c.args.shape ≤ 6 = omega (arith, c.k-stage-end.ensures.within, c.k-stage-end.ensures.value) in
    let a = c.loop-stage.invariant.shape.queues (c.loop-stage.stage + 1) in
    let b = c.loop-stage.invariant.shape.queues c.loop-stage.stage in
    let e = c.requires.levels.each (c.loop-stage.stage + 1) (omega (arith, c.k-stage-end.ensures.value, c.loop-stage-test.true)) in
    let f = c.requires.levels.each c.loop-stage.stage (omega (arith, c.k-stage-end.ensures.value, c.loop-stage-test.true)) in
    subst (λ n. port c.deciding_bit-by.result i x < n) (sym (b ∙ f))
    (port_stays c.args.shape c.deciding_bit-by.result x i (omega (arith, c.deciding_bit-by.ensures, c.k-stage-end.ensures.value, c.loop-stage-test.true)) few h (subst (λ n. x < n) (a ∙ e) within))

pub loop-stage-preserved : goal.loop-stage-preserved
loop-stage-preserved g c =
    let few : c.args.shape ≤ 6 = omega (arith, c.k-stage-end.ensures.within, c.k-stage-end.ensures.value) in
    let lt : c.loop-stage.stage < c.args.shape = omega (arith, c.loop-stage-test.true, c.k-stage-end.ensures.value) in
    record {
      shape = shape_twice c.args.levels.now.items c.loop-stage.levels.items c.move_heads.new.levels.items c.loop-stage.invariant.shape c.move_heads.ensures.shape;
      queues = back_more g.T.Routed.route c.args.shape c.args.leave.now c.args.levels.now.items c.loop-stage.stage lt few c.deciding_bit-by.result c.deciding_bit-by.ensures
          c.loop-stage.levels.items c.move_heads.new.levels.items c.loop-stage.invariant.queues c.move_heads.ensures.queues;
    }

pub returns-clause-shape : goal.returns-clause-shape
returns-clause-shape g c = c.loop-stage.invariant.shape

pub returns-clause-queues : goal.returns-clause-queues
returns-clause-queues g c = λ l z within small.
    let e : c.loop-stage.stage ≡ c.args.shape = omega (arith, c.loop-stage-test.false, c.k-stage-end.ensures.value, c.loop-stage.auto.stage-end) in
    c.loop-stage.invariant.queues l z within small
    ∙ ap (λ n. partly_back g.T.Routed.route c.args.shape c.args.leave.now c.args.levels.now.items n l z) e
    ∙ all_back g.T.Routed.route c.args.shape c.args.leave.now c.args.levels.now.items l z within
