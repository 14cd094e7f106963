use Rattle.std.proofs.Common.{◌∙◌, sym}
use Rattle.cell_states.specs.Stated.{state_at}
use Rattle.cell_states.specs.Versions.{lists}
use Rattle.due_cells.proofs.Keeping.{seen_due, seen_version, seen_no_version}
use Rattle.due_cells.proofs.Stated.{bounded_by}
use Rattle.due_cells.proofs.cells.Cells.version.Goals as goal

pub returns-then-is_due : goal.returns-then-is_due
returns-then-is_due g c =
    let i = c.self.inside in
    let due = seen_due (state_at i.states) i.due (lists i.versions.items) c.args.self.now c.self.view_is (bounded_by i.states i.due c.self.invariant.0) c.self.invariant.1 c.args.cell.cycle c.args.cell.component in
    c.version_in.ensures
    ∙ sym (seen_version (state_at i.states) i.due (lists i.versions.items) c.args.self.now c.self.view_is (bounded_by i.states i.due c.self.invariant.0) c.self.invariant.1 c.args.cell.cycle c.args.cell.component (sym due ∙ sym c.is_due.ensures ∙ c.if-is_due.true))

pub returns-else-is_due : goal.returns-else-is_due
returns-else-is_due g c =
    let i = c.self.inside in
    let due = seen_due (state_at i.states) i.due (lists i.versions.items) c.args.self.now c.self.view_is (bounded_by i.states i.due c.self.invariant.0) c.self.invariant.1 c.args.cell.cycle c.args.cell.component in
    sym (seen_no_version (state_at i.states) i.due (lists i.versions.items) c.args.self.now c.self.view_is (bounded_by i.states i.due c.self.invariant.0) c.self.invariant.1 c.args.cell.cycle c.args.cell.component (sym due ∙ sym c.is_due.ensures ∙ c.if-is_due.false))
