use Rattle.std.proofs.Common.{◌∙◌, sym}
use Rattle.cell_states.specs.Stated.{state_at}
use Rattle.cell_states.specs.Versions.{lists}
use Rattle.due_cells.proofs.Keeping.{seen_state}
use Rattle.due_cells.proofs.Stated.{bounded_by}
use Rattle.due_cells.proofs.cells.Cells.words.Goals as goal

pub returns-clause-none : goal.returns-clause-none
returns-clause-none g c =
    let i = c.self.inside in
    let seen = seen_state (state_at i.states) i.due (lists i.versions.items) c.args.self.now c.self.view_is (bounded_by i.states i.due c.self.invariant.0) c.self.invariant.1 c.args.cell.cycle c.args.cell.component in
    (λ e. seen ∙ c.words.ensures.none.0 e, λ e. c.words.ensures.none.1 (sym seen ∙ e))

pub returns-clause-told : goal.returns-clause-told
returns-clause-told g c = λ x e.
    let i = c.self.inside in
    let seen = seen_state (state_at i.states) i.due (lists i.versions.items) c.args.self.now c.self.view_is (bounded_by i.states i.due c.self.invariant.0) c.self.invariant.1 c.args.cell.cycle c.args.cell.component in
    c.words.ensures.told x (sym seen ∙ e)
