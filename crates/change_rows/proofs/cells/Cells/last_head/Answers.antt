use Rattle.std.proofs.Common.{◌≡◌, ◌+◌, ◌-◌, ◌∙◌, ap, arith, length, List, get_or, ◌++◌, ◌∷◌, [], ℕ}
use Rattle.std.proofs.Math.ListN.{length-append}
use Rattle.std.proofs.Math.Seq.{get_or-append_seam}
use Rattle.change_rows.specs.Cells.{Held, no_cell}
use Rattle.change_rows.proofs.cells.Cells.last_head.Goals as goal

pub returns-then-count-eq0 : goal.returns-then-count-eq0
returns-then-count-eq0 c = λ front cell e. absurd (omega (arith, c.len-count.ensures.count, c.if-count-eq0.true, ap (λ (v : List Held). length v) e, length-append front (cell ∷ [])))

pub returns : goal.returns
returns c = λ front cell e.
    let n : length c.args.self.now ≡ length front + 1 = ap (λ (v : List Held). length v) e ∙ length-append front (cell ∷ []) in
    let place : c.len-count.result - 1 ≡ length front = omega (arith, c.len-count.ensures.count, n) in
    c.word_at.ensures
    ∙ ap (λ (v : List ℕ). get_or v 0 0) (c.words.ensures ∙ ap (λ (h : Held). h.words) (ap (λ (v : List Held). get_or v (c.len-count.result - 1) no_cell) e ∙ ap (λ (i : ℕ). get_or (front ++ cell ∷ []) i no_cell) place ∙ get_or-append_seam front cell [] no_cell))
