use Rattle.std.proofs.Common.{◌<◌, ◌∙◌, sym, subst, arith}
use Rattle.std.specs.Prelude.{IsSome}
use Rattle.omega_net.specs.Queues.{head}
use Rattle.flat_row.specs.Row.{queue_of}
use Rattle.flat_row.specs.Labels.{port}
use Rattle.flat_row.proofs.Carrying.{none_moved, all_moved, one_more, head_still}
use Rattle.flat_row.proofs.Passing.{shape_same, shape_twice, level_within, waiting}
use Rattle.flat_row.proofs.moving.move_heads.Goals as goal

pub loop-x-init : goal.loop-x-init
loop-x-init g c = record {
  within = omega arith;
  shape = shape_same c.args.levels.now.items;
  queues = λ m z small. none_moved g.T.Routed.route c.args.by c.args.from c.args.to c.args.levels.now.items c.args.leave m z;
}

pub pass-requires-clause-can : goal.pass-requires-clause-can
pass-requires-clause-can g c =
    record {
      source = subst (λ n. c.args.from < n) (sym c.loop-x.invariant.shape.many) c.requires.can.source;
      target = subst (λ n. c.args.to < n) (sym c.loop-x.invariant.shape.many) c.requires.can.target;
      apart = c.requires.can.apart;
    }

pub pass-requires-clause-there : goal.pass-requires-clause-there
pass-requires-clause-there g c = c.in-Some.ensures.there.1

pub pass-requires-clause-message : goal.pass-requires-clause-message
pass-requires-clause-message g c =
    let f = c.in-Some.ensures.there in
    let x = c.in-Some.x in
    let some = c.requires.some x f.1 f.2 in
    let same = head_still g.T.Routed.route c.args.by c.args.from c.args.to c.args.levels.now.items c.loop-x.levels.items c.args.leave c.loop-x.next x f.1 f.0 c.loop-x.invariant.queues in
    record {
      queue = subst (λ n. x < n) (sym (c.loop-x.invariant.shape.queues c.args.from)) (level_within c.args.levels.now.items c.args.from x some);
      some = subst (λ q. IsSome (head q)) (sym same) some;
    }

pub pass-requires-clause-ports : goal.pass-requires-clause-ports
pass-requires-clause-ports g c = λ i h.
    let f = c.in-Some.ensures.there in
    let x = c.in-Some.x in
    subst (λ n. port c.args.by i x < n) (sym (c.loop-x.invariant.shape.queues c.args.to)) (c.requires.ports x i (level_within c.args.levels.now.items c.args.from x (c.requires.some x f.1 f.2)) h)

pub loop-x-smaller : goal.loop-x-smaller
loop-x-smaller g c = omega (arith, c.in-Some.ensures.there.0, c.in-Some.ensures.there.1)

pub loop-x-preserved : goal.loop-x-preserved
loop-x-preserved g c =
    let f = c.in-Some.ensures.there in
    let x = c.in-Some.x in
    let inv = c.loop-x.invariant in
    let levels = c.args.levels.now.items in
    let m = waiting (head (queue_of levels c.args.from x)) (c.requires.some x f.1 f.2) in
    record {
      within = omega (arith, f.1);
      shape = shape_twice levels c.loop-x.levels.items c.pass.new.levels.items inv.shape c.pass.ensures.shape;
      queues = λ l z small.
          c.pass.ensures.queues l z
          ∙ one_more g.T.Routed.route c.args.by c.args.from c.args.to levels c.args.leave c.loop-x.next x c.requires.by c.requires.can.apart f.1 f.0 c.in-Some.ensures.passed f.2 m.0 m.1 c.loop-x.levels.items inv.queues l z small;
    }

pub returns-clause-shape : goal.returns-clause-shape
returns-clause-shape g c = c.loop-x.invariant.shape

pub returns-clause-queues : goal.returns-clause-queues
returns-clause-queues g c = λ l z small.
    c.loop-x.invariant.queues l z small ∙ all_moved g.T.Routed.route c.args.by c.args.from c.args.to c.args.levels.now.items c.args.leave c.loop-x.next l z c.requires.by small c.in_default.ensures.passed
