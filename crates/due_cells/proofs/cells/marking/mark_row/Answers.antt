use Rattle.std.proofs.Common.{◌∙◌, ◌||◌, ◌&&◌, sym, ap, eqb, length}
use Rattle.std.proofs.Math.ListN.{length-set}
use Rattle.cell_marks.specs.Marked.{Marked, row_at as marks_at, has as has_mark}
use Rattle.cell_states.specs.Near.{has}
use Rattle.due_cells.proofs.MarkedRow.{has_joined, length_joined}
use Rattle.due_cells.proofs.MarkedCells.{cycle_marked}
use Rattle.due_cells.proofs.cells.marking.mark_row.Goals as goal

pub returns : goal.returns
returns c =
    let due = c.args.due.now in
    let t = c.args.cycle in
    let list = c.args.list.now in
    let idle = c.begin_idle.ensures in
    let give = c.give_in.ensures in
    let wide = c.requires.width ∙ sym (c.requires.layout.marks t c.requires.cycle) in
    cycle_marked c.args.version t due c.set_all.new.self c.args.versions.now.items c.begin_idle.new.versions.items c.give_in.new.rows.items (has list) c.requires.cycle c.requires.layout c.requires.ready idle.row idle.room idle.due give.row give.room give.given give.others give.either
    (ap (λ (m : Marked). m.width) c.set_all.ensures)
    (ap (λ (m : Marked). length m.rows) c.set_all.ensures ∙ length-set due.rows t _)
    (λ u. ap (λ (m : Marked). length (marks_at m.rows u)) c.set_all.ensures ∙ length_joined due.rows t c.args.row.now c.requires.cycle wide u)
    (λ u d. ap (λ (m : Marked). has_mark m.rows u d) c.set_all.ensures ∙ has_joined due.rows t c.args.row.now c.requires.cycle wide u d ∙ ap (λ b. has_mark due.rows u d || ((eqb u t) && b)) (c.requires.listed d))
