use Rattle.std.proofs.Common.{◌≡◌, ◌+◌, ◌-◌, ◌<◌, ◌≤◌, ◌∙◌, ap, sym, subst, arith}
use Rattle.std.specs.Prelude.{IsSome}
use Rattle.omega_net.specs.Queues.{head}
use Rattle.flat_row.specs.Masks.{has}
use Rattle.flat_row.specs.Row.{queue_of}
use Rattle.flat_row.specs.Moving.{moved_straight}
use Rattle.omega_net.specs.Numbers.{lines}
use Rattle.flat_row.proofs.Staging.{PartlyForth, entered_so, enter_some, stage_some, stage_more, stage_small, from_done, to_done, all_forth_met, levels_still, buffers_still}
use Rattle.flat_row.proofs.stages.combs_forth.Goals as goal

pub move_straight-requires-clause-can : goal.move_straight-requires-clause-can
move_straight-requires-clause-can c =
    record {
      source = omega (arith, c.requires.levels.many, c.k-k.ensures.k);
      target = omega (arith, c.requires.levels.many, c.k-k.ensures.k);
      apart = λ e. omega (arith, e);
    }

pub move_straight-requires-clause-some : goal.move_straight-requires-clause-some
move_straight-requires-clause-some c = λ x small has_it.
    let few : c.args.project.now.k ≤ 6 = omega (arith, c.k-k.ensures.k, c.k-k.ensures.small) in
    subst (λ n. IsSome (head (queue_of c.args.levels.now.items n x))) (sym c.k-k.ensures.k)
    (enter_some c.args.project.now few c.args.leave.now c.args.enter c.args.levels.now.items c.args.waits.now.items c.requires.some x small has_it)

pub move_straight-requires-clause-there : goal.move_straight-requires-clause-there
move_straight-requires-clause-there c =
    let a = c.requires.levels.each c.k-k.result (omega (arith, c.k-k.ensures.k)) in
    let b = c.requires.levels.each (c.k-k.result + 1) (omega (arith, c.k-k.ensures.k)) in
    omega (arith, a, b)

pub loop-done-init : goal.loop-done-init
loop-done-init c =
    let P = c.args.project.now in
    let few : c.args.project.now.k ≤ 6 = omega (arith, c.k-k.ensures.k, c.k-k.ensures.small) in
    let e : c.args.project.now.k ≡ c.args.project.now.k - 0 = omega arith in
    subst (λ n. PartlyForth P c.args.leave.now c.args.enter n c.args.levels.now.items c.move_straight.new.levels.items c.args.waits.now.items c.args.waits.now.items) e
    (entered_so P few c.args.leave.now c.args.enter c.args.levels.now.items c.args.waits.now.items c.move_straight.new.levels.items c.move_straight.ensures.shape
    (λ l z small. c.move_straight.ensures.queues l z small ∙ ap (λ n. moved_straight (has c.args.enter) n (n + 1) c.args.levels.now.items l z) c.k-k.ensures.k))

pub stage_forth-requires-clause-stage : goal.stage_forth-requires-clause-stage
stage_forth-requires-clause-stage c = omega (arith, c.k-k.ensures.k, c.loop-done-test.true)

pub stage_forth-requires-clause-levels : goal.stage_forth-requires-clause-levels
stage_forth-requires-clause-levels c = levels_still (c.args.project.now.k + 2) (lines c.args.project.now.k) c.args.levels.now.items c.loop-done.levels.items c.requires.levels c.loop-done.invariant.shape

pub stage_forth-requires-clause-buffers : goal.stage_forth-requires-clause-buffers
stage_forth-requires-clause-buffers c = buffers_still c.args.project.now.k (lines c.args.project.now.k) c.args.waits.now.items c.loop-done.waits.items c.requires.buffers c.loop-done.invariant.buffers

pub stage_forth-requires-clause-some : goal.stage_forth-requires-clause-some
stage_forth-requires-clause-some c =
    let P = c.args.project.now in
    let few : c.args.project.now.k ≤ 6 = omega (arith, c.k-k.ensures.k, c.k-k.ensures.small) in
    let lt : c.loop-done.done < c.args.project.now.k = omega (arith, c.loop-done-test.true, c.k-k.ensures.k) in
    let is : c.k-k.result - 1 - c.loop-done.done ≡ c.args.project.now.k - 1 - c.loop-done.done = ap (λ n. n - 1 - c.loop-done.done) c.k-k.ensures.k in
    stage_some P few c.args.leave.now c.args.enter c.args.levels.now.items c.args.waits.now.items (c.k-k.result - 1 - c.loop-done.done)
    (stage_small P few c.args.leave.now c.args.enter c.args.levels.now.items c.args.waits.now.items c.loop-done.done (c.k-k.result - 1 - c.loop-done.done) lt is) c.loop-done.levels.items c.loop-done.waits.items
    (from_done P few c.args.leave.now c.args.enter c.args.levels.now.items c.args.waits.now.items c.loop-done.done (c.k-k.result - 1 - c.loop-done.done) lt is c.loop-done.levels.items c.loop-done.waits.items c.loop-done.invariant) c.requires.some

pub loop-done-preserved : goal.loop-done-preserved
loop-done-preserved c =
    let P = c.args.project.now in
    let few : c.args.project.now.k ≤ 6 = omega (arith, c.k-k.ensures.k, c.k-k.ensures.small) in
    let lt : c.loop-done.done < c.args.project.now.k = omega (arith, c.loop-done-test.true, c.k-k.ensures.k) in
    let is : c.k-k.result - 1 - c.loop-done.done ≡ c.args.project.now.k - 1 - c.loop-done.done = ap (λ n. n - 1 - c.loop-done.done) c.k-k.ensures.k in
    let small = stage_small P few c.args.leave.now c.args.enter c.args.levels.now.items c.args.waits.now.items c.loop-done.done (c.k-k.result - 1 - c.loop-done.done) lt is in
    let partly = from_done P few c.args.leave.now c.args.enter c.args.levels.now.items c.args.waits.now.items c.loop-done.done (c.k-k.result - 1 - c.loop-done.done) lt is c.loop-done.levels.items c.loop-done.waits.items c.loop-done.invariant in
    to_done P few c.args.leave.now c.args.enter c.args.levels.now.items c.args.waits.now.items c.loop-done.done (c.k-k.result - 1 - c.loop-done.done) lt is c.stage_forth.new.levels.items c.stage_forth.new.waits.items
    (stage_more P few c.args.leave.now c.args.enter c.args.levels.now.items c.args.waits.now.items (c.k-k.result - 1 - c.loop-done.done) small c.loop-done.levels.items c.loop-done.waits.items partly c.stage_forth.new.levels.items c.stage_forth.new.waits.items
    c.stage_forth.ensures.met c.stage_forth.ensures.buffers c.stage_forth.ensures.others)

pub returns : goal.returns
returns c =
    let P = c.args.project.now in
    let few : c.args.project.now.k ≤ 6 = omega (arith, c.k-k.ensures.k, c.k-k.ensures.small) in
    let e : c.args.project.now.k - c.loop-done.done ≡ 0 = omega (arith, c.loop-done-test.false, c.k-k.ensures.k) in
    all_forth_met P few c.args.leave.now c.args.enter c.args.levels.now.items c.args.waits.now.items c.loop-done.levels.items c.loop-done.waits.items
    (subst (λ n. PartlyForth P c.args.leave.now c.args.enter n c.args.levels.now.items c.loop-done.levels.items c.args.waits.now.items c.loop-done.waits.items) e c.loop-done.invariant)
