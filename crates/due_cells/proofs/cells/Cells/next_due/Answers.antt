use Rattle.std.proofs.Common.{◌∙◌}
use Rattle.cell_states.specs.Stated.{state_at}
use Rattle.cell_states.specs.Versions.{lists}
use Rattle.due_cells.proofs.Keeping.{seen_due, seen_first, first_or_none}
use Rattle.due_cells.proofs.Stated.{bounded_by}
use Rattle.due_cells.proofs.cells.Cells.next_due.Goals as goal

pub returns : goal.returns
returns g c =
    let i = c.self.inside in
    first_or_none (λ none k h. seen_due (state_at i.states) i.due (lists i.versions.items) c.args.self.now c.self.view_is (bounded_by i.states i.due c.self.invariant.0) c.self.invariant.1 c.args.cycle k ∙ none k h) (λ d first. seen_first (state_at i.states) i.due (lists i.versions.items) c.args.self.now c.self.view_is (bounded_by i.states i.due c.self.invariant.0) c.self.invariant.1 c.args.cycle c.args.from d first) c.first_from.result c.first_from.ensures
