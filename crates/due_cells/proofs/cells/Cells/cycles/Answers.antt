use Rattle.std.proofs.Common.{◌∙◌, sym}
use Rattle.cell_states.specs.Stated.{state_at}
use Rattle.cell_states.specs.Versions.{lists}
use Rattle.due_cells.proofs.Keeping.{seen_cycles}
use Rattle.due_cells.proofs.cells.Cells.cycles.Goals as goal

pub returns : goal.returns
returns g c =
    let i = c.self.inside in
    c.len.ensures ∙ sym (seen_cycles (state_at i.states) i.due (lists i.versions.items) c.args.self.now c.self.view_is)
