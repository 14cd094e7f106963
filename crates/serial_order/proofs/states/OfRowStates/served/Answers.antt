use Rattle.std.proofs.Common.{◌↔◌, ◌<◌, ◌∙◌, ap, subst, sym}
use Rattle.std.specs.Prelude.{IsSome, option_and_then}
use Rattle.omega_net.specs.Numbers.{components, component_of}
use Rattle.mem_module.specs.MemModule.{served_net}
use Rattle.flat_row.specs.Row.{module_of}
use Rattle.serial_order.specs.Looking.{request_of}
use Rattle.serial_order.proofs.Rows.{serves}
use Rattle.serial_order.proofs.states.OfRowStates.served.Goals as goal

pub returns-in-Some : goal.returns-in-Some
returns-in-Some c =
    let R = c.args.self.now.row.now in
    let n = c.args.component in
    c.served_in.ensures
    ∙ sym (
    serves R n c.component.result (c.component.ensures.value ∙ ap (λ k. component_of k n) c.shape.ensures)
    (subst (λ k. IsSome c.component.result ↔ (n < components k)) c.shape.ensures c.component.ensures.there) c.args.depth
    ∙ ap (option_and_then (λ m. request_of (module_of R m) (served_net (module_of R m) c.args.depth))) (sym c.module_number.ensures ∙ c.in-Some.is)
    )

pub returns-in-None : goal.returns-in-None
returns-in-None c =
    let R = c.args.self.now.row.now in
    let n = c.args.component in
    sym (
    serves R n c.component.result (c.component.ensures.value ∙ ap (λ k. component_of k n) c.shape.ensures)
    (subst (λ k. IsSome c.component.result ↔ (n < components k)) c.shape.ensures c.component.ensures.there) c.args.depth
    ∙ ap (option_and_then (λ m. request_of (module_of R m) (served_net (module_of R m) c.args.depth))) (sym c.module_number.ensures ∙ c.in-None.is)
    )
