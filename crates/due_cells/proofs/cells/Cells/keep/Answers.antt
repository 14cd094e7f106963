use Rattle.cell_states.specs.Stated.{state_at}
use Rattle.cell_states.specs.Versions.{lists}
use Rattle.due_cells.proofs.Keeping.{seen_cycle, seen_component, stored_cell, kept_other}
use Rattle.due_cells.proofs.Stated.{bounded_by}
use Rattle.due_cells.proofs.cells.Cells.keep.Goals as goal

pub clear-requires-clause-row : goal.clear-requires-clause-row
clear-requires-clause-row g c =
    let i = c.self.inside in
    seen_cycle (state_at i.states) i.due (lists i.versions.items) c.args.self.now c.self.view_is c.args.cell.cycle c.requires.cycle

pub clear-requires-clause-component : goal.clear-requires-clause-component
clear-requires-clause-component g c =
    let i = c.self.inside in
    seen_component (state_at i.states) i.due (lists i.versions.items) c.args.self.now c.self.view_is c.args.cell.cycle c.args.cell.component c.requires.cycle c.requires.component

pub returns : goal.returns
returns g c =
    let i = c.self.inside in
    let t = c.args.cell.cycle in
    let d = c.args.cell.component in
    let there = seen_cycle (state_at i.states) i.due (lists i.versions.items) c.args.self.now c.self.view_is t c.requires.cycle in
    let inside = seen_component (state_at i.states) i.due (lists i.versions.items) c.args.self.now c.self.view_is t d c.requires.cycle c.requires.component in
    stored_cell (state_at i.states) i.due (lists i.versions.items) (bounded_by i.states i.due c.self.invariant.0) c.self.invariant.1 c.args.self.now c.self.view_is t d there inside (state_at i.states) c.clear.new.self _ c.clear.ensures (kept_other (state_at i.states) i.due (lists i.versions.items) (bounded_by i.states i.due c.self.invariant.0) c.self.invariant.1 c.args.self.now c.self.view_is t d there inside)
