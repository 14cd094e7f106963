use Rattle.std.proofs.Common.{◌∙◌, sym, ap, length}
use Rattle.cell_states.specs.Filling.{is_awake}
use Rattle.cell_states.specs.Stated.{state_at}
use Rattle.cell_states.specs.Versions.{lists}
use Rattle.due_cells.proofs.Keeping.{seen_cycle, seen_length, seen_due}
use Rattle.due_cells.proofs.Stated.{bounded_by}
use Rattle.due_cells.proofs.cells.Cells.due_row.Goals as goal

pub row-requires : goal.row-requires
row-requires g c =
    let i = c.self.inside in
    seen_cycle (state_at i.states) i.due (lists i.versions.items) c.args.self.now c.self.view_is c.args.cycle c.requires

pub returns-clause-len : goal.returns-clause-len
returns-clause-len g c =
    let i = c.self.inside in
    let there = seen_cycle (state_at i.states) i.due (lists i.versions.items) c.args.self.now c.self.view_is c.args.cycle c.requires in
    ap length c.row.ensures ∙ c.self.invariant.1.marks c.args.cycle there ∙ sym (seen_length (state_at i.states) i.due (lists i.versions.items) c.args.self.now c.self.view_is c.args.cycle there)

pub returns-clause-due : goal.returns-clause-due
returns-clause-due g c = λ d.
    let i = c.self.inside in
    ap (λ m. is_awake m d) c.row.ensures ∙ sym (seen_due (state_at i.states) i.due (lists i.versions.items) c.args.self.now c.self.view_is (bounded_by i.states i.due c.self.invariant.0) c.self.invariant.1 c.args.cycle d)
