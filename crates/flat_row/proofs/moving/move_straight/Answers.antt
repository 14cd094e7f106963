use Rattle.std.proofs.Common.{◌<◌, ◌∙◌, sym, subst, length, arith}
use Rattle.std.specs.Prelude.{IsSome}
use Rattle.omega_net.specs.Queues.{head}
use Rattle.flat_row.specs.Row.{level_at}
use Rattle.flat_row.proofs.Straight.{none_straight, all_straight, one_straight, straight_still_there}
use Rattle.flat_row.proofs.Passing.{shape_same, shape_twice, level_within}
use Rattle.flat_row.proofs.moving.move_straight.Goals as goal

pub loop-x-init : goal.loop-x-init
loop-x-init g c = record {
  within = omega arith;
  shape = shape_same c.args.levels.now.items;
  queues = λ m z small. none_straight c.args.from c.args.to c.args.levels.now.items c.args.leave m z;
}

pub pass_straight-requires-clause-can : goal.pass_straight-requires-clause-can
pass_straight-requires-clause-can g c =
    record {
      source = subst (λ n. c.args.from < n) (sym c.loop-x.invariant.shape.many) c.requires.can.source;
      target = subst (λ n. c.args.to < n) (sym c.loop-x.invariant.shape.many) c.requires.can.target;
      apart = c.requires.can.apart;
    }

pub pass_straight-requires-clause-message : goal.pass_straight-requires-clause-message
pass_straight-requires-clause-message g c =
    let f = c.in-Some.ensures.there in
    let x = c.in-Some.x in
    let some = c.requires.some x f.1 f.2 in
    let same = straight_still_there c.args.from c.args.to c.args.levels.now.items c.loop-x.levels.items c.args.leave c.loop-x.next x f.1 f.0 c.loop-x.invariant.queues in
    record {
      queue = subst (λ n. x < n) (sym (c.loop-x.invariant.shape.queues c.args.from)) (level_within c.args.levels.now.items c.args.from x some);
      some = subst (λ q. IsSome (head q)) (sym same) some;
    }

pub pass_straight-requires-clause-there : goal.pass_straight-requires-clause-there
pass_straight-requires-clause-there g c =
    let f = c.in-Some.ensures.there in
    let x = c.in-Some.x in
    let here : x < length (level_at c.args.levels.now.items c.args.from).queues = level_within c.args.levels.now.items c.args.from x (c.requires.some x f.1 f.2) in
    let wide : x < length (level_at c.args.levels.now.items c.args.to).queues = omega (arith, here, c.requires.there) in
    subst (λ n. x < n) (sym (c.loop-x.invariant.shape.queues c.args.to)) wide

pub loop-x-smaller : goal.loop-x-smaller
loop-x-smaller g c = omega (arith, c.in-Some.ensures.there.0, c.in-Some.ensures.there.1)

pub loop-x-preserved : goal.loop-x-preserved
loop-x-preserved g c =
    let f = c.in-Some.ensures.there in
    let x = c.in-Some.x in
    let inv = c.loop-x.invariant in
    let levels = c.args.levels.now.items in
    record {
      within = omega (arith, f.1);
      shape = shape_twice levels c.loop-x.levels.items c.pass_straight.new.levels.items inv.shape c.pass_straight.ensures.shape;
      queues = λ l z small.
          c.pass_straight.ensures.queues l z
          ∙ one_straight c.args.from c.args.to levels c.args.leave c.loop-x.next x c.requires.can.apart f.1 f.0 c.in-Some.ensures.passed f.2 c.loop-x.levels.items inv.queues l z small;
    }

pub returns-clause-shape : goal.returns-clause-shape
returns-clause-shape g c = c.loop-x.invariant.shape

pub returns-clause-queues : goal.returns-clause-queues
returns-clause-queues g c = λ l z small.
    c.loop-x.invariant.queues l z small ∙ all_straight c.args.from c.args.to c.args.levels.now.items c.args.leave c.loop-x.next l z small c.in_default.ensures.passed
