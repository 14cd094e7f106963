use Rattle.std.proofs.Common.{◌≡◌, ◌+◌, ◌∙◌, List, length, get_or, map, sym, ap, subst, arith, Vec, Global}
use Rattle.std.specs.Arc.{arc_value}
use Rattle.std.specs.declared.sync.Arc.{Arc}
use Rattle.machine_cells.specs.declared.state.MachineState.{MachineState}
use Rattle.machine_cells.specs.Run.{run}
use Rattle.machine_cells.specs.Runs.{state_in}
use Rattle.memory_order.specs.Linearizable.{Linearizes}
use Rattle.experiments.specs.declared.order.OrderRow.{OrderRow}
use Rattle.experiments.specs.declared.order.Service.{Service}
use Rattle.experiments.specs.Orders.{row_of, rows_from, services}
use Rattle.experiments.proofs.Numbered.{order_tags, row_next, rows_listed}
use Rattle.experiments.proofs.order.order_rows.Goals as goal

pub loop-place-preserved : goal.loop-place-preserved
loop-place-preserved c =
    let P = c.args.project.now in
    let items = λ (r : Vec (Arc MachineState Global) Global). map arc_value r.items in
    let at = state_in (map items c.in_ok-rows.rows.items) in
    let ss = c.deref-service-items.result.now in
    let none : Service = record { cycle = 0; tag = record { proc = 0; issue = 0 } } in
    row_next P at (c.loop-place.place + 1) c.loop-place.place ss none c.loop-place.listed.items c.push.new.self.items (rows_from P at 1 ss) c.row_of.result (omega arith)
    (c.row_of.ensures
    ∙ ap (λ (R : List (List MachineState)). row_of P (state_in R) (c.loop-place.place + 1) (get_or ss c.loop-place.place none)) (ap (map items) c.as_slice-in-loop-place.ensures.value))
    c.in_ok-push.ensures.items c.loop-place.invariant

pub returns-clause-rows : goal.returns-clause-rows
returns-clause-rows c =
    let P = c.args.project.now in
    let items = λ (r : Vec (Arc MachineState Global) Global). map arc_value r.items in
    let served : c.deref-service-items.result.now ≡ services P (state_in (run P)) =
    c.deref-service-items.ensures.value ∙ c.in_ok-services.ensures
    ∙ ap (λ (R : List (List MachineState)). services P (state_in R)) (ap (map items) c.as_slice.ensures.value ∙ c.in_ok-rows.ensures) in
    let end : c.loop-place.place ≡ length c.deref-service-items.result.now = omega (arith, c.loop-place.auto.place-end, c.loop-place-test.false) in
    rows_listed P (map items c.in_ok-rows.rows.items) c.deref-service-items.result.now c.loop-place.listed.items (c.loop-place.place + 1) c.loop-place.place c.in_ok-rows.ensures
    served end c.loop-place.invariant

pub returns-clause-order : goal.returns-clause-order
returns-clause-order c = ap (map (λ (r : OrderRow). r.tag)) (returns-clause-rows c) ∙ order_tags c.args.project.now

pub returns-clause-linearizes : goal.returns-clause-linearizes
returns-clause-linearizes c =
    subst (Linearizes c.args.project.now) (sym (returns-clause-order c)) (c.one_orders.ensures c.args.project.now c.is_project.ensures.project c.is_project.ensures.pages)
