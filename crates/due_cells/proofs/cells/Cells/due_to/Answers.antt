use Rattle.std.proofs.Common.{◌∙◌, ◌+◌}
use Rattle.cell_states.specs.Stated.{state_at}
use Rattle.cell_states.specs.Versions.{lists}
use Rattle.due_cells.proofs.Keeping.{count_rows}
use Rattle.due_cells.proofs.Stated.{bounded_by}
use Rattle.due_cells.proofs.cells.Cells.due_to.Goals as goal

pub returns : goal.returns
returns g c =
    let i = c.self.inside in
    c.count_to.ensures ∙ count_rows (state_at i.states) i.due (lists i.versions.items) (bounded_by i.states i.due c.self.invariant.0) c.self.invariant.1 c.args.self.now c.self.view_is (c.args.t + 1)
