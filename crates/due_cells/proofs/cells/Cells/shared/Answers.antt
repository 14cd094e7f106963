use Rattle.cell_states.specs.Stated.{state_at}
use Rattle.cell_states.specs.Versions.{lists}
use Rattle.due_cells.proofs.Keeping.{seen_state}
use Rattle.due_cells.proofs.Stated.{bounded_by}
use Rattle.due_cells.proofs.cells.Cells.shared.Goals as goal

pub returns : goal.returns
returns g c =
    let i = c.self.inside in
    rw (seen_state (state_at i.states) i.due (lists i.versions.items) c.args.self.now c.self.view_is (bounded_by i.states i.due c.self.invariant.0) c.self.invariant.1 c.args.cell.cycle c.args.cell.component) c.shared.ensures
