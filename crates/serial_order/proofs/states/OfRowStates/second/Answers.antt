use Rattle.std.proofs.Common.{◌↔◌, ◌<◌, ◌∙◌, ap, subst, sym}
use Rattle.std.specs.Prelude.{IsSome, option_and_then, option_map}
use Rattle.omega_net.specs.Numbers.{components, component_of}
use Rattle.flat_row.specs.Labels.{switch_label}
use Rattle.flat_row.specs.Row.{buffers_at, wait_of}
use Rattle.serial_order.specs.Order.{first_entry}
use Rattle.serial_order.proofs.Rows.{waits}
use Rattle.serial_order.proofs.states.OfRowStates.second.Goals as goal

pub returns-in-Some : goal.returns-in-Some
returns-in-Some c =
    let R = c.args.self.now.row.now in
    let n = c.args.component in
    let tag = c.args.tag in
    c.second_among.ensures
    ∙ ap (λ w. option_map (λ e. e.second) (first_entry tag w)) c.waiting.ensures
    ∙ sym (
    waits R n c.component.result (c.component.ensures.value ∙ ap (λ k. component_of k n) c.shape.ensures)
    (subst (λ k. IsSome c.component.result ↔ (n < components k)) c.shape.ensures c.component.ensures.there) tag
    ∙ ap (option_and_then (λ p. option_map (λ e. e.second) (first_entry tag (wait_of (buffers_at R p.0) (switch_label R.k p.0 p.1)).items))) (sym c.switch_place.ensures ∙ c.in-Some.is)
    )

pub returns-in-None : goal.returns-in-None
returns-in-None c =
    let R = c.args.self.now.row.now in
    let n = c.args.component in
    let tag = c.args.tag in
    sym (
    waits R n c.component.result (c.component.ensures.value ∙ ap (λ k. component_of k n) c.shape.ensures)
    (subst (λ k. IsSome c.component.result ↔ (n < components k)) c.shape.ensures c.component.ensures.there) tag
    ∙ ap (option_and_then (λ p. option_map (λ e. e.second) (first_entry tag (wait_of (buffers_at R p.0) (switch_label R.k p.0 p.1)).items))) (sym c.switch_place.ensures ∙ c.in-None.is)
    )
