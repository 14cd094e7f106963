use Rattle.std.proofs.Common.{◌≡◌, ◌<◌, ◌++◌, ◌∙◌, List, ap, arith}
use Rattle.omega_net.specs.declared.message.Tag.{Tag}
use Rattle.serial_order.specs.OneOrder.{all_now}
use Rattle.serial_order.proofs.OneList.{one_before, one_read}
use Rattle.serial_order.proofs.Held.{held_all_more}
use Rattle.serial_order.proofs.answer.one_order_in.Goals as goal

pub loop-cycle-preserved : goal.loop-cycle-preserved
loop-cycle-preserved g c =
    let P = c.args.project.now in
    let t = c.loop-cycle.cycle in
    let at = g.S.States.at c.args.states.now in
    let h : t < P.horizon = omega (arith, c.horizon-horizon.ensures.horizon) in
    c.in_ok-push_all.ensures ∙ ap (λ (tags : List Tag). tags ++ all_now P (at t)) c.loop-cycle.invariant ∙ held_all_more P at t c.requires h

pub returns : goal.returns
returns g c =
    let P = c.args.project.now in
    let e : c.loop-cycle.cycle ≡ P.horizon = omega (arith, c.horizon-horizon.ensures.horizon) in
    c.loop-cycle.invariant ∙ ap (one_before P) e ∙ one_read P
