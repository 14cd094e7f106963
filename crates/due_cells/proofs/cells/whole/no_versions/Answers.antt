use Rattle.std.proofs.Common.{◌∙◌, sym}
use Rattle.cell_states.specs.Stated.{state_at}
use Rattle.cell_states.specs.Versions.{lists}
use Rattle.due_cells.proofs.Keeping.{seen_due, seen_no_version}
use Rattle.due_cells.proofs.Stated.{bounded_by}
use Rattle.due_cells.proofs.cells.whole.no_versions.Goals as goal

pub returns : goal.returns
returns g c = λ t d e.
    let i = c.cells.inside in
    seen_no_version (state_at i.states) i.due (lists i.versions.items) c.args.cells.now c.cells.view_is (bounded_by i.states i.due c.cells.invariant.0) c.cells.invariant.1 t d (sym (seen_due (state_at i.states) i.due (lists i.versions.items) c.args.cells.now c.cells.view_is (bounded_by i.states i.due c.cells.invariant.0) c.cells.invariant.1 t d) ∙ e)
