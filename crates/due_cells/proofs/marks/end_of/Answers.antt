use Rattle.std.proofs.Common.{◌≡◌, ℕ, ◌+◌, ◌<◌, ◌≤◌, ◌∙◌, sym, ap, arith, ◌⊎◌, inl, inr, length, get_or}
use Rattle.std.proofs.lemmas.Bool.{cases_lt}
use Rattle.std.proofs.lemmas.List.{get_or-take, length-take, take_all}
use Rattle.cell_states.specs.declared.cell.CellRange.{CellRange}
use Rattle.cell_states.proofs.Rooms.{same_get}
use Rattle.due_cells.proofs.MarkedRow.{none_range}
use Rattle.due_cells.proofs.marks.end_of.Goals as goal
use Rattle.due_cells.proofs.marks.end_of.Goals.{then-end-range, else-end-range}

pub loop-range-preserved : goal.loop-range-preserved
loop-range-preserved c = λ k d h.
    let xs = c.args.ranges.now in
    let i = c.loop-range.range-index in
    let end = c.if-end-range.end in
    let most : (c.loop-range.end ≤ end) × ((get_or xs i none_range).to ≤ end) = elim c.if-end-range.branch [
      | then-end-range w ↦ (omega (arith, w.end-is, w.if-end-range), omega (arith, w.end-is))
      | else-end-range w ↦ (omega (arith, w.end-is), omega (arith, w.end-is, w.if-end-range))
    ] in
    let short : k < i + 1 = omega (arith, h, length-take (i + 1) xs) in
    by_place k (cases_lt k i)
    (λ l. (
    let is = ap (λ (r : CellRange). r.to) (get_or-take (i + 1) xs k d short ∙ sym (get_or-take i xs k d l)) in
    let was = c.loop-range.invariant k d (omega (arith, l, length-take i xs, c.loop-range-test.true)) in
    omega (arith, is, was, most.0)))
    (λ l. (
    let e : k ≡ i = omega (arith, short, l) in
    let is = ap (λ (r : CellRange). r.to) (get_or-take (i + 1) xs k d short ∙ ap (λ j. get_or xs j d) e ∙ same_get xs i d none_range c.loop-range-test.true) in
    omega (arith, is, most.1)))
  where
    by_place : {P : Type 0} {i : ℕ} (k : ℕ) → (k < i) ⊎ (i ≤ k) → (k < i → P) → (i ≤ k → P) → P
    by_place k (inl l) f g = f l
    by_place k (inr l) f g = g l

pub returns : goal.returns
returns c = λ k d h.
    let xs = c.args.ranges.now in
    let i = c.loop-range.range-index in
    let all = take_all i xs c.loop-range-test.false in
    let was = c.loop-range.invariant k d (omega (arith, h, ap length all)) in
    omega (arith, was, ap (λ ys. (get_or ys k d).to) all)
