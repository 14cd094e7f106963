use Rattle.std.proofs.Common.{◌∙◌, ap, sym, arith}
use Rattle.cell_states.specs.ReadsBy.{reads_by}
use Rattle.cell_states.specs.Stated.{state_at}
use Rattle.cell_states.specs.Versions.{lists}
use Rattle.due_cells.proofs.Keeping.{seen_state, seen_cycles}
use Rattle.due_cells.proofs.Stated.{bounded_by}
use Rattle.due_cells.proofs.cells.Cells.reads_to.Goals as goal

pub reads_to-requires-clause-within : goal.reads_to-requires-clause-within
reads_to-requires-clause-within g c =
    let i = c.self.inside in
    omega (arith, c.requires.within, c.self.invariant.0.cycles, seen_cycles (state_at i.states) i.due (lists i.versions.items) c.args.self.now c.self.view_is)

pub returns-clause-reads : goal.returns-clause-reads
returns-clause-reads g c = λ t l k.
    let i = c.self.inside in
    c.reads_to.ensures.reads t l k
    ∙ ap (reads_by g.G.Grid.rules c.args.slots.now c.args.cell.component c.args.slot.now) (sym (seen_state (state_at i.states) i.due (lists i.versions.items) c.args.self.now c.self.view_is (bounded_by i.states i.due c.self.invariant.0) c.self.invariant.1 t c.args.cell.component))
