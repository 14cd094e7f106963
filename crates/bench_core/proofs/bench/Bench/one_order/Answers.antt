use Rattle.std.proofs.Common.{◌≡◌, ap, sym, subst, arith}
use Rattle.due_cells.specs.Seen.{Seen}
use Rattle.machine_cells.specs.declared.state.MachineState.{MachineState}
use Rattle.project_book.specs.Project.{Project}
use Rattle.serial_order.specs.Answers.{HoldsRun}
use Rattle.bench_core.specs.Shown.{Shown, project_of, held}
use Rattle.bench_core.specs.Asks.{HoldsRunTo}
use Rattle.bench_core.proofs.Looking.{run_held}
use Rattle.bench_core.proofs.bench.Bench.one_order.Goals as goal

pub one_order_in-requires : goal.one_order_in-requires
one_order_in-requires c =
    let b = c.args.self.now in
    let to : c.horizon.result ≡ (project_of b).horizon = rw c.project.ensures at c.horizon.ensures.horizon in
    let none : c.pending_to.result ≡ 0 = omega (arith, c.if-pending_to-eq0.true) in
    let ready : HoldsRunTo b (project_of b).horizon = subst (HoldsRunTo b) to (c.pending_to.ensures.ready none) in
    let table : b.table ≡ c.self.inside.table = ap (λ (s : Shown). s.table) (sym c.self.view_is) in
    subst (λ (p : Project). HoldsRun p (held c.self.inside.table)) (sym c.project-then-pending_to-eq0.ensures)
    (subst (λ (v : Seen MachineState Project). HoldsRun (project_of b) (held v)) table (λ t k h i. run_held b (project_of b).horizon t k ready (omega arith) (omega arith) i))
