use Rattle.std.proofs.Common.{◌-◌, ◌<◌, ◌∙◌, sym, ap, arith, cond, length, refl}
use Rattle.cell_states.specs.Stated.{state_at}
use Rattle.cell_states.specs.Versions.{lists}
use Rattle.due_cells.specs.Layout.{cleared}
use Rattle.cell_states.specs.Filling.{is_awake}
use Rattle.due_cells.proofs.Keeping.{seen_cycles, seen_state, length_row}
use Rattle.due_cells.proofs.FilledRows.{marks_filled, same_cell, cleared_cell}
use Rattle.due_cells.proofs.Stated.{bounded_by, stated_along, width_each}
use Rattle.due_cells.proofs.cells.repeat_cells.Goals as goal

pub repeat_changed-requires-clause-within : goal.repeat_changed-requires-clause-within
repeat_changed-requires-clause-within g c =
    let i = c.cells.inside in
    omega (arith, c.cells.invariant.0.cycles, seen_cycles (state_at i.states) i.due (lists i.versions.items) c.args.cells.now c.cells.view_is, c.requires.within)

pub repeat_changed-requires-clause-width : goal.repeat_changed-requires-clause-width
repeat_changed-requires-clause-width g c =
    let i = c.cells.inside in
    let some : 0 < length c.args.cells.now = omega (arith, c.requires.later, c.requires.after, c.requires.within) in
    sym (width_each i.states i.due (lists i.versions.items) c.args.cells.now (length c.args.changes.now) c.cells.invariant.0 c.cells.view_is some c.requires.width)

pub clear_rows-requires-clause-end : goal.clear_rows-requires-clause-end
clear_rows-requires-clause-end g c =
    let i = c.cells.inside in
    omega (arith, c.requires.within, seen_cycles (state_at i.states) i.due (lists i.versions.items) c.args.cells.now c.cells.view_is)

pub returns-clause-lens : goal.returns-clause-lens
returns-clause-lens g c = λ t h.
    let i = c.cells.inside in
    let some : 0 < length c.args.cells.now = omega (arith, c.requires.later, c.requires.after, c.requires.within) in
    length_row (state_at c.repeat_changed.new.self) c.clear_rows.new.due (lists i.versions.items) t (omega (arith, h, seen_cycles (state_at i.states) i.due (lists i.versions.items) c.args.cells.now c.cells.view_is, c.clear_rows.ensures.len))
    ∙ c.clear_rows.ensures.width ∙ sym c.cells.invariant.0.width ∙ width_each i.states i.due (lists i.versions.items) c.args.cells.now (length c.args.changes.now) c.cells.invariant.0 c.cells.view_is some c.requires.width

pub returns-clause-repeated : goal.returns-clause-repeated
returns-clause-repeated g c =
    let i = c.cells.inside in
    let r = c.clear_rows.ensures in
    let states1 = c.repeat_changed.new.self in
    let now = c.in-Ok.ensures.repeated in
    let marks = marks_filled i.due c.clear_rows.new.due c.args.from c.args.to c.cells.invariant.1.marks r.cleared r.earlier r.later in
    let bounded = bounded_by i.states i.due c.cells.invariant.0 in
    let bounded1 = bounded_by states1 i.due (stated_along i.states states1 i.due i.due c.cells.invariant.0 c.repeat_changed.ensures.many refl refl) in
    let some : 0 < length c.args.cells.now = omega (arith, c.requires.later, c.requires.after, c.requires.within) in
    let width = width_each i.states i.due (lists i.versions.items) c.args.cells.now (length c.args.changes.now) c.cells.invariant.0 c.cells.view_is some c.requires.width in
    record {
      repeated = λ t d h k l.
          cleared_cell (state_at i.states) (state_at states1) i.due c.clear_rows.new.due (lists i.versions.items) c.args.cells.now bounded c.cells.invariant.1 c.cells.view_is bounded1 r.width r.len marks t d _ (omega (arith, h, width, c.cells.invariant.0.width)) (r.cleared t k l) (now.repeated t d k l)
          ∙ ap cleared (sym (seen_state (state_at i.states) i.due (lists i.versions.items) c.args.cells.now c.cells.view_is bounded c.cells.invariant.1 (cond (is_awake c.args.changes.now d) (c.args.from - 1) t) d));
      earlier = λ t d h. same_cell (state_at i.states) (state_at states1) i.due c.clear_rows.new.due (lists i.versions.items) c.args.cells.now bounded c.cells.invariant.1 c.cells.view_is bounded1 r.width r.len marks t d (now.earlier t d h) (r.earlier t h);
      later = λ t d h. same_cell (state_at i.states) (state_at states1) i.due c.clear_rows.new.due (lists i.versions.items) c.args.cells.now bounded c.cells.invariant.1 c.cells.view_is bounded1 r.width r.len marks t d (now.later t d h) (r.later t h);
    }
