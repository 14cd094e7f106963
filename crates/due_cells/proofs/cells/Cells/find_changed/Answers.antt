use Rattle.std.proofs.Common.{◌∙◌, ◌<◌, sym, arith, length}
use Rattle.cell_states.specs.Stated.{state_at}
use Rattle.cell_states.specs.Versions.{lists}
use Rattle.due_cells.proofs.Keeping.{seen_cycles, seen_length, seen_state}
use Rattle.due_cells.proofs.Stated.{bounded_by}
use Rattle.due_cells.proofs.cells.Cells.find_changed.Goals as goal

pub find_changed-requires-clause-within : goal.find_changed-requires-clause-within
find_changed-requires-clause-within g c =
    let i = c.self.inside in
    omega (arith, c.self.invariant.0.cycles, seen_cycles (state_at i.states) i.due (lists i.versions.items) c.args.self.now c.self.view_is, c.requires.within)

pub find_changed-requires-clause-width : goal.find_changed-requires-clause-width
find_changed-requires-clause-width g c =
    let i = c.self.inside in
    let there : 0 < length i.due.rows = omega (arith, seen_cycles (state_at i.states) i.due (lists i.versions.items) c.args.self.now c.self.view_is, c.requires.within) in
    c.requires.width ∙ seen_length (state_at i.states) i.due (lists i.versions.items) c.args.self.now c.self.view_is 0 there ∙ sym c.self.invariant.0.width

pub returns-clause-same : goal.returns-clause-same
returns-clause-same g c = λ d h a.
    let i = c.self.inside in
    let there : 0 < length i.due.rows = omega (arith, seen_cycles (state_at i.states) i.due (lists i.versions.items) c.args.self.now c.self.view_is, c.requires.within) in
    let width = c.requires.width ∙ seen_length (state_at i.states) i.due (lists i.versions.items) c.args.self.now c.self.view_is 0 there ∙ sym c.self.invariant.0.width in
    let bounded = bounded_by i.states i.due c.self.invariant.0 in
    seen_state (state_at i.states) i.due (lists i.versions.items) c.args.self.now c.self.view_is bounded c.self.invariant.1 c.args.to d
    ∙ c.find_changed.ensures.same d (omega (arith, h, width)) a
    ∙ sym (seen_state (state_at i.states) i.due (lists i.versions.items) c.args.self.now c.self.view_is bounded c.self.invariant.1 c.args.from d)
