use Rattle.std.proofs.Common.{◌<◌, ◌∙◌, ◌⊎◌, inl, inr, arith, length}
use Rattle.std.proofs.lemmas.Bool.{cases_lt}
use Rattle.change_rows.specs.Rows.{words_at}
use Rattle.cell_states.proofs.Coded.{none_past, stands}
use Rattle.cell_states.proofs.Whole.{awake_within}
use Rattle.cell_states.proofs.states.whole.last_held.Goals as goal

pub returns-then-next_change-end-clause-none : goal.returns-then-next_change-end-clause-none
returns-then-next_change-end-clause-none c = λ t d h a.
    let v = c.args.rows.now in
    let cycle = c.args.cycle in
    let there = awake_within c.args.set.now d a in
    let inside : d < v.width = omega (arith, there, c.requires.width) in
    let from = λ (k : t < length v.rows).
    stands (λ u. words_at v.rows u d) cycle c.next_change.result
    (λ u l m. (c.next_change.ensures.steady u d (omega (arith, l)) m inside (c.words.ensures.bits d there ∙ a)).1)
    t (omega (arith, h)) (omega (arith, k, c.len-end.ensures.count, c.if-next_change-end.true))
    ∙ c.is_blank.ensures c.if-is_blank.true d inside in
    by_cycle from (λ k. none_past v t d k) (cases_lt t (length v.rows))
  where
    by_cycle : {P Q X : Type 0} → (P → X) → (Q → X) → P ⊎ Q → X
    by_cycle f g (inl p) = f p
    by_cycle f g (inr q) = g q
