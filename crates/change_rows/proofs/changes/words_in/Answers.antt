use Rattle.std.proofs.Common.{◌∙◌, sym, arith, Some}
use Rattle.change_rows.proofs.Standing.{seam_last, row_last}
use Rattle.change_rows.proofs.changes.words_in.Goals as goal

pub returns-then-is_change : goal.returns-then-is_change
returns-then-is_change c =
    let s = c.args.s.now in
    row_last s.width s.rows.items s.marks.items s.seam s.at c.requires.changes c.args.t c.args.c c.requires.row c.requires.component (Some c.args.t) (omega arith, sym c.is_change.ensures ∙ c.if-is_change.true, λ u low high. absurd (omega (arith, low, high))) (λ h l. absurd (omega (arith, h, l))) c.words_from.result.now c.words_from.ensures

pub returns-in-Some : goal.returns-in-Some
returns-in-Some c =
    let s = c.args.s.now in
    seam_last s.width s.rows.items s.marks.items s.seam s.at c.requires.changes c.args.t c.args.c c.requires.row c.requires.component c.last_change-last.result c.last_change-last.ensures c.in-Some.words.now c.in-Some.ensures

pub returns-in-None : goal.returns-in-None
returns-in-None c =
    let s = c.args.s.now in
    row_last s.width s.rows.items s.marks.items s.seam s.at c.requires.changes c.args.t c.args.c c.requires.row c.requires.component c.last_change-last.result c.last_change-last.ensures c.in-None.ensures c.words_from-in-None.result.now c.words_from-in-None.ensures
