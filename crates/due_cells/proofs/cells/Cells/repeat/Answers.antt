use Rattle.std.proofs.Common.{◌-◌, arith, subst, sym}
use Rattle.cell_states.specs.Stated.{state_at, IsOtherState}
use Rattle.cell_states.specs.Versions.{lists}
use Rattle.due_cells.proofs.Keeping.{seen_cycle, seen_component, seen_state, stored_cell}
use Rattle.due_cells.proofs.Stated.{bounded_by, same_stated}
use Rattle.due_cells.proofs.cells.Cells.repeat.Goals as goal

pub repeat-requires-clause-cycle : goal.repeat-requires-clause-cycle
repeat-requires-clause-cycle g c =
    let i = c.self.inside in
    omega (arith, seen_cycle (state_at i.states) i.due (lists i.versions.items) c.args.self.now c.self.view_is c.args.cell.cycle c.requires.cycle, c.self.invariant.0.cycles)

pub repeat-requires-clause-component : goal.repeat-requires-clause-component
repeat-requires-clause-component g c =
    let i = c.self.inside in
    omega (arith, c.self.invariant.0.width, seen_component (state_at i.states) i.due (lists i.versions.items) c.args.self.now c.self.view_is c.args.cell.cycle c.args.cell.component c.requires.cycle c.requires.component)

pub clear-requires-clause-row : goal.clear-requires-clause-row
clear-requires-clause-row g c =
    let i = c.self.inside in
    seen_cycle (state_at i.states) i.due (lists i.versions.items) c.args.self.now c.self.view_is c.args.cell.cycle c.requires.cycle

pub clear-requires-clause-component : goal.clear-requires-clause-component
clear-requires-clause-component g c =
    let i = c.self.inside in
    seen_component (state_at i.states) i.due (lists i.versions.items) c.args.self.now c.self.view_is c.args.cell.cycle c.args.cell.component c.requires.cycle c.requires.component

pub returns-in-Ok-clause-ok : goal.returns-in-Ok-clause-ok
returns-in-Ok-clause-ok g c =
    let i = c.self.inside in
    let t = c.args.cell.cycle in
    let d = c.args.cell.component in
    let there = seen_cycle (state_at i.states) i.due (lists i.versions.items) c.args.self.now c.self.view_is t c.requires.cycle in
    let inside = seen_component (state_at i.states) i.due (lists i.versions.items) c.args.self.now c.self.view_is t d c.requires.cycle c.requires.component in
    let before = sym (seen_state (state_at i.states) i.due (lists i.versions.items) c.args.self.now c.self.view_is (bounded_by i.states i.due c.self.invariant.0) c.self.invariant.1 (t - 1) d) in
    stored_cell (state_at i.states) i.due (lists i.versions.items) (bounded_by i.states i.due c.self.invariant.0) c.self.invariant.1 c.args.self.now c.self.view_is t d there inside (state_at c.repeat.new.self) c.clear.new.self _ c.clear.ensures (subst (λ o. IsOtherState i.states c.repeat.new.self t d o) before c.in-Ok.ensures.ok).at

pub returns-in-Err-clause-err : goal.returns-in-Err-clause-err
returns-in-Err-clause-err g c =
    let i = c.self.inside in
    same_stated i.states c.repeat.new.self i.due (lists i.versions.items) c.args.self.now c.self.invariant.0 c.self.invariant.1 c.self.view_is c.in-Err.ensures.err
