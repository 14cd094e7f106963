use Rattle.std.proofs.Common.{◌∙◌, sym, arith}
use Rattle.cell_states.specs.Stated.{state_at}
use Rattle.cell_states.specs.Versions.{lists}
use Rattle.due_cells.proofs.Keeping.{seen_state, seen_cycles}
use Rattle.due_cells.proofs.Stated.{bounded_by}
use Rattle.due_cells.proofs.cells.Cells.stands_before.Goals as goal

pub stands_to-requires-clause-within : goal.stands_to-requires-clause-within
stands_to-requires-clause-within g c =
    let i = c.self.inside in
    omega (arith, c.min-end.ensures, c.cycles.ensures, c.self.invariant.0.cycles, seen_cycles (state_at i.states) i.due (lists i.versions.items) c.args.self.now c.self.view_is)

pub returns-clause-same : goal.returns-clause-same
returns-clause-same g c = λ t l k.
    let i = c.self.inside in
    seen_state (state_at i.states) i.due (lists i.versions.items) c.args.self.now c.self.view_is (bounded_by i.states i.due c.self.invariant.0) c.self.invariant.1 t c.args.cell.component
    ∙ c.stands_to.ensures.same t l k
    ∙ sym (seen_state (state_at i.states) i.due (lists i.versions.items) c.args.self.now c.self.view_is (bounded_by i.states i.due c.self.invariant.0) c.self.invariant.1 c.args.cell.cycle c.args.cell.component)
