use Rattle.std.proofs.Common.{◌||◌, ◌∙◌, sym, ap, arith}
use Rattle.cell_states.specs.Filling.{is_awake}
use Rattle.cell_states.specs.Stated.{state_at}
use Rattle.cell_states.specs.Versions.{lists}
use Rattle.due_cells.proofs.Keeping.{seen_cycle, seen_length, seen_due}
use Rattle.due_cells.proofs.Stated.{bounded_by}
use Rattle.due_cells.proofs.cells.Cells.is_due_alike.Goals as goal

pub is_alike-requires-clause-width : goal.is_alike-requires-clause-width
is_alike-requires-clause-width g c =
    let i = c.self.inside in
    c.requires.width ∙ seen_length (state_at i.states) i.due (lists i.versions.items) c.args.self.now c.self.view_is c.args.cycle (seen_cycle (state_at i.states) i.due (lists i.versions.items) c.args.self.now c.self.view_is c.args.cycle c.requires.cycle)

pub is_alike-requires-clause-row : goal.is_alike-requires-clause-row
is_alike-requires-clause-row g c =
    let i = c.self.inside in
    seen_cycle (state_at i.states) i.due (lists i.versions.items) c.args.self.now c.self.view_is c.args.cycle c.requires.cycle

pub is_alike-requires-clause-other : goal.is_alike-requires-clause-other
is_alike-requires-clause-other g c =
    let i = c.self.inside in
    seen_cycle (state_at i.states) i.due (lists i.versions.items) c.args.self.now c.self.view_is c.args.other c.requires.other

pub returns : goal.returns
returns g c = λ e k h.
    let i = c.self.inside in
    let same = c.is_alike.ensures.0 e k (omega (arith, h, c.requires.width, seen_length (state_at i.states) i.due (lists i.versions.items) c.args.self.now c.self.view_is c.args.cycle (seen_cycle (state_at i.states) i.due (lists i.versions.items) c.args.self.now c.self.view_is c.args.cycle c.requires.cycle))) in
    ap (λ b. b || is_awake c.args.among.now k) (seen_due (state_at i.states) i.due (lists i.versions.items) c.args.self.now c.self.view_is (bounded_by i.states i.due c.self.invariant.0) c.self.invariant.1 c.args.cycle k)
    ∙ same
    ∙ sym (seen_due (state_at i.states) i.due (lists i.versions.items) c.args.self.now c.self.view_is (bounded_by i.states i.due c.self.invariant.0) c.self.invariant.1 c.args.other k)
