use Rattle.std.proofs.Common.{◌≡◌, ℕ, ◌+◌, ◌<◌, ◌∙◌, sym, ap, arith}
use Rattle.std.specs.Arc.{arc_value}
use Rattle.due_cells.specs.Seen.{held_at}
use Rattle.cell_states.specs.Near.{has, near_at}
use Rattle.cell_states.specs.Versions.{any_changes}
use Rattle.due_cells.specs.Noted.{noted}
use Rattle.cell_states.proofs.Since.{any_same}
use Rattle.due_cells.proofs.Noted.{woken_noted}
use Rattle.due_cells.proofs.rows.mark_changed.Goals as goal

pub note-requires-clause-reached : goal.note-requires-clause-reached
note-requires-clause-reached g c = λ d h.
    let R = g.G.Grid.rules in
    let s = c.args.slots.now in
    let n = R.components s in
    let changes = c.args.changes.now in
    let width = c.requires.width.0 in
    let index = c.requires.there.index in
    let near = near_at (arc_value c.near.result.now) d in
    let inside : d < n = omega (arith, h, width) in
    let same : (k : ℕ) → k < n → has (R.near s d) k ≡ has near k = λ k l. sym (index.readers k d l inside) ∙ sym (c.near.ensures k d (omega (arith, l, index.one_each)) (omega (arith, inside, index.one_each))) in
    c.requires.reached d inside
    ∙ any_same changes (R.near s d) near n same
    ∙ ap (any_changes changes near) (sym width)

pub returns-clause-marked : goal.returns-clause-marked
returns-clause-marked g c = λ m d inside.
    let R = g.G.Grid.rules in
    let s = c.args.slots.now in
    let n = R.components s in
    let t = c.args.cycle in
    let changes = c.args.changes.now in
    let width = c.requires.width.0 in
    let index = c.requires.there.index in
    let near = near_at (arc_value c.near.result.now) d in
    let same : (k : ℕ) → k < n → has near k ≡ has (R.near s d) k = λ k l. c.near.ensures k d (omega (arith, l, index.one_each)) (omega (arith, inside, index.one_each)) ∙ index.readers k d l inside in
    c.note.ensures.noted d (omega (arith, inside, width))
    ∙ ap (noted (held_at c.args.cells.now (t + 1) d) changes near c.args.clock) width
    ∙ sym (woken_noted R s c.args.cells.now changes t c.args.clock d near n (omega (arith, width)) same)
