use Rattle.std.proofs.Common.{◌≡◌, ◌<◌, ◌∙◌, ap, sym, arith, List, map, Some}
use Rattle.std.specs.Prelude.{option_map}
use Rattle.std.specs.Arc.{arc_value}
use Rattle.std.proofs.lemmas.List.{take_all}
use Rattle.grid_law.specs.Run.{run}
use Rattle.omega_net.specs.Numbers.{components}
use Rattle.machine_cells.specs.declared.state.MachineState.{MachineState}
use Rattle.machine_cells.specs.GridRules.{rp3_rules}
use Rattle.machine_cells.specs.Run.{first_states}
use Rattle.machine_cells.proofs.Runs.{later, run_from-get, row_at}
use Rattle.bench_core.specs.Shown.{project_of, held}
use Rattle.bench_core.proofs.Rows.{one_more}
use Rattle.bench_core.proofs.bench.Bench.row.Goals as goal

pub loop-component-init : goal.loop-component-init
loop-component-init c = ap (map arc_value) c.new-row.ensures.items

pub loop-component-preserved : goal.loop-component-preserved
loop-component-preserved c =
    let P = project_of c.args.self.now in
    let n = c.loop-component.component in
    let end : c.components-component-end.result ≡ components P.k = rw c.project.ensures at c.components-component-end.ensures in
    let inside : n < components P.k = omega (arith, end, c.loop-component-test.true) in
    let shown : option_map arc_value c.in_ok-state.field-0 ≡ held c.args.self.now.table c.args.cycle n = rw (← c.self.view_is) c.in_ok-state.ensures in
    let found : Some (run rp3_rules P c.args.cycle n) ≡ Some (arc_value c.in-Some.state) = sym (c.requires.there c.args.cycle n (omega arith) inside) ∙ sym shown ∙ ap (option_map arc_value) c.in-Some.is in
    let all = row_at P c.args.cycle in
    ap (map arc_value) c.in_ok-push-in-Some.ensures.items
    ∙ one_more arc_value c.loop-component.row.items c.in-Some.state (later P c.args.cycle (first_states P)) n c.loop-component.invariant (all.states n (omega (arith, all.size, inside)) ∙ found)

pub returns : goal.returns
returns c =
    let P = project_of c.args.self.now in
    let end : c.components-component-end.result ≡ components P.k = rw c.project.ensures at c.components-component-end.ensures in
    let whole : List MachineState = later P c.args.cycle (first_states P) in
    let all : map arc_value c.loop-component.row.items ≡ whole = c.loop-component.invariant ∙ take_all c.loop-component.component whole (omega (arith, (row_at P c.args.cycle).size, end, c.loop-component-test.false)) in
    run_from-get P (first_states P) P.horizon c.args.cycle c.requires.within ∙ ap Some (sym all)
