use Rattle.std.proofs.Common.{◌∙◌, sym}
use Rattle.cell_states.specs.Stated.{state_at}
use Rattle.cell_states.specs.Versions.{lists}
use Rattle.due_cells.proofs.Keeping.{seen_state}
use Rattle.due_cells.proofs.Stated.{bounded_by}
use Rattle.due_cells.proofs.cells.Cells.turn.Goals as goal

pub returns-clause-ahead : goal.returns-clause-ahead
returns-clause-ahead g c = λ a t u e le.
    let i = c.self.inside in
    let seen = seen_state (state_at i.states) i.due (lists i.versions.items) c.args.self.now c.self.view_is (bounded_by i.states i.due c.self.invariant.0) c.self.invariant.1 c.args.cell.cycle c.args.cell.component in
    c.turn.ensures.ahead a t u (sym seen ∙ e) le

pub returns-clause-passed : goal.returns-clause-passed
returns-clause-passed g c = λ a t u e le.
    let i = c.self.inside in
    let seen = seen_state (state_at i.states) i.due (lists i.versions.items) c.args.self.now c.self.view_is (bounded_by i.states i.due c.self.invariant.0) c.self.invariant.1 c.args.cell.cycle c.args.cell.component in
    c.turn.ensures.passed a t u (sym seen ∙ e) le
