use Rattle.std.proofs.Common.{◌≡◌, ◌∙◌, ◌||◌, ◌&&◌, ap, refl, arith, Bool, true, false, cond, eqb, length}
use Rattle.std.proofs.Math.ListN.{length-set}
use Rattle.cell_marks.specs.Marked.{Marked, row_at as marks_at, has as has_mark}
use Rattle.cell_states.proofs.Cases.{at_set, lens_set}
use Rattle.due_cells.proofs.Marking.{one_listed}
use Rattle.due_cells.proofs.MarkedCells.{cycle_marked}
use Rattle.due_cells.proofs.cells.marking.mark_cell.Goals as goal

pub returns : goal.returns
returns c =
    let due = c.args.due.now in
    let t = c.args.cell.cycle in
    let k = c.args.cell.component in
    let idle = c.begin_idle.ensures in
    let give = c.give_in.ensures in
    cycle_marked c.args.version t due c.set.new.self c.args.versions.now.items c.begin_idle.new.versions.items c.give_in.new.rows.items (λ d. eqb d k) c.requires.cycle c.requires.layout c.requires.ready idle.row idle.room idle.due give.row give.room (λ d h. give.given d (one_listed k d ∙ h)) (λ room d h. give.others room d (one_listed k d ∙ h)) give.either
    (ap (λ (m : Marked). m.width) c.set.ensures)
    (ap (λ (m : Marked). length m.rows) c.set.ensures ∙ length-set due.rows t _)
    (λ u. ap (λ (m : Marked). length (marks_at m.rows u)) c.set.ensures ∙ lens_set due.rows t k true u)
    (λ u d. ap (λ (m : Marked). has_mark m.rows u d) c.set.ensures ∙ at_set due.rows t k true false c.requires.cycle (omega (arith, c.requires.component, c.requires.layout.marks t c.requires.cycle)) u d ∙ or_of ((eqb u t) && eqb d k) (has_mark due.rows u d))
  where
    or_of : (a b : Bool) → cond a true b ≡ (b || a)
    or_of true true = refl
    or_of true false = refl
    or_of false true = refl
    or_of false false = refl
