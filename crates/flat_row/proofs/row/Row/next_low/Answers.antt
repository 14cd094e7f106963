use Rattle.std.proofs.Common.{◌≡◌, suc, ◌+◌, ◌-◌, ◌++◌, ◌∙◌, ap, subst, arith}
use Rattle.std.specs.Prelude.{OnOk}
use Rattle.omega_net.specs.declared.component.Net.TheVariants.{Low as LowNet}
use Rattle.machine_cells.specs.Moves.{moves}
use Rattle.machine_cells.specs.Cycle.{switch_traffic}
use Rattle.flat_row.specs.Row.{Arrays, Network, port_label, queue_of, states_of}
use Rattle.flat_row.proofs.Laters.{low_told, low_fits}
use Rattle.flat_row.proofs.Telling.{on_answer}
use Rattle.flat_row.proofs.row.Row.next_low.Goals as goal

pub returns-clause-ok : goal.returns-clause-ok
returns-clause-ok c =
    let P = c.args.project.now in
    let R : Arrays = c.args.self.now in
    let s = c.args.stage in
    let j = c.args.index in
    let x = c.ports-x.result.0 in
    let y = c.ports-x.result.1 in
    let l = s + 1 in
    let N : Network = record { requests = c.side.inside.requests.items; replies = c.side.inside.replies.items; turns = c.side.inside.turns; back_turns = c.side.inside.back_turns } in
    let N_is : N ≡ R.low = c.side.view_is ∙ c.side-side.ensures in
    let shape_is : c.self.inside.shape ≡ R.k = ap (λ (r : Arrays). r.k) c.self.view_is in
    let behind : l ≡ suc s = omega arith in
    subst (λ ws. OnOk c.write_after.result (c.write_after.new.words.items ≡ c.args.words.now.items ++ ws))
    (low_told R.k R.low N N_is s j (P.k - 1 - s) (c.k.result - 1 - s) c.switch_traffic-traffic.result (switch_traffic (moves P (states_of R)) P.k LowNet s j)
    (ap (λ k. k - 1 - s) c.k.ensures.k) c.switch_traffic-traffic.ensures x y l
    (c.ports-x.ensures.first ∙ ap (λ k. port_label k s j 0) shape_is) (c.ports-x.ensures.second ∙ ap (λ k. port_label k s j 1) shape_is) behind
    c.messages_at.result.now c.messages_at-2.result.now _ _ c.messages_at-3.result.now c.messages_at-4.result.now _ _
    c.turn_then.result c.turn_then-2.result c.back_turn_then.result c.back_turn_then-2.result c.bit_in.result c.bit_in-2.result c.bit_in-3.result c.bit_in-4.result c.bytes-turns.result
    (c.messages_at.ensures.value ∙ ap (λ ls. (queue_of ls l x).items) c.deref.ensures.value)
    (c.messages_at-2.ensures.value ∙ ap (λ ls. (queue_of ls l y).items) c.deref-2.ensures.value)
    (c.messages_at-3.ensures.value ∙ ap (λ ls. (queue_of ls s x).items) c.deref-3.ensures.value)
    (c.messages_at-4.ensures.value ∙ ap (λ ls. (queue_of ls s y).items) c.deref-4.ensures.value)
    c.requests_then-first.ensures.value c.requests_then-second.ensures.value c.replies_then-first_back.ensures.value c.replies_then-second_back.ensures.value
    c.bit_in.ensures c.bit_in-2.ensures c.bit_in-3.ensures c.bit_in-4.ensures
    c.turn_then.ensures c.turn_then-2.ensures c.back_turn_then.ensures c.back_turn_then-2.ensures c.bytes-turns.ensures.value)
    c.write_after.ensures.ok

pub returns-clause-state : goal.returns-clause-state
returns-clause-state c =
    let P = c.args.project.now in
    let R : Arrays = c.args.self.now in
    let s = c.args.stage in
    let j = c.args.index in
    let x = c.ports-x.result.0 in
    let y = c.ports-x.result.1 in
    let l = s + 1 in
    let N : Network = record { requests = c.side.inside.requests.items; replies = c.side.inside.replies.items; turns = c.side.inside.turns; back_turns = c.side.inside.back_turns } in
    let N_is : N ≡ R.low = c.side.view_is ∙ c.side-side.ensures in
    let shape_is : c.self.inside.shape ≡ R.k = ap (λ (r : Arrays). r.k) c.self.view_is in
    let behind : l ≡ suc s = omega arith in
    on_answer c.write_after.result
    (low_fits R.k R.low N N_is s j (P.k - 1 - s) (c.k.result - 1 - s) c.switch_traffic-traffic.result (switch_traffic (moves P (states_of R)) P.k LowNet s j)
    (ap (λ k. k - 1 - s) c.k.ensures.k) c.switch_traffic-traffic.ensures x y l
    (c.ports-x.ensures.first ∙ ap (λ k. port_label k s j 0) shape_is) (c.ports-x.ensures.second ∙ ap (λ k. port_label k s j 1) shape_is) behind
    c.messages_at.result.now c.messages_at-2.result.now _ _ c.messages_at-3.result.now c.messages_at-4.result.now _ _
    (c.messages_at.ensures.value ∙ ap (λ ls. (queue_of ls l x).items) c.deref.ensures.value)
    (c.messages_at-2.ensures.value ∙ ap (λ ls. (queue_of ls l y).items) c.deref-2.ensures.value)
    (c.messages_at-3.ensures.value ∙ ap (λ ls. (queue_of ls s x).items) c.deref-3.ensures.value)
    (c.messages_at-4.ensures.value ∙ ap (λ ls. (queue_of ls s y).items) c.deref-4.ensures.value)
    c.requests_then-first.ensures.value c.requests_then-second.ensures.value c.replies_then-first_back.ensures.value c.replies_then-second_back.ensures.value
    c.requests_then-first.ensures.fits c.requests_then-second.ensures.fits c.replies_then-first_back.ensures.fits c.replies_then-second_back.ensures.fits
    c.fits.ensures c.fits-2.ensures c.fits-3.ensures c.fits-4.ensures)
