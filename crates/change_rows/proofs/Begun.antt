-- Which components begin something in a row.
use Rattle.std.proofs.Common.{◌≡◌, ℕ, ◌+◌, ◌<◌, ◌||◌, ◌∙◌, ◌⊎◌, inl, inr, sym, ap, refl, Bool, true, false, is_some, List, length, take}
use Rattle.std.proofs.lemmas.Bool.{cases_eq, eq-eqb, ne_eqb}
use Rattle.change_rows.specs.Cells.{Held, found, component_at}
use Rattle.change_rows.specs.Marks.{is_in}
use Rattle.change_rows.proofs.Marking.{found_more}

or_true : (a b : Bool) → (a || (b || true)) ≡ true
or_true true b = refl
or_true false true = refl
or_true false false = refl

or_false : (b : Bool) → (b || false) ≡ b
or_false true = refl
or_false false = refl

-- a set with the components of the first cells gets that of one more
pub added : (set0 set1 set2 : List ℕ) (cells : List Held) (i c : ℕ) → i < length cells → c ≡ component_at cells i → is_in set2 c ≡ true → ((d : ℕ) → (d ≡ c → ⊥) → is_in set2 d ≡ is_in set1 d) → ((d : ℕ) → is_in set1 d ≡ (is_in set0 d || is_some (found (take i cells) d))) → (d : ℕ) → is_in set2 d ≡ (is_in set0 d || is_some (found (take (i + 1) cells) d))
added set0 set1 set2 cells i c h is here others before d = by_place (cases_eq d c)
  where
    by_place : (d ≡ c) ⊎ (d ≡ c → ⊥) → is_in set2 d ≡ (is_in set0 d || is_some (found (take (i + 1) cells) d))
    by_place (inl e) =
        ap (is_in set2) e ∙ here
        ∙ sym (ap (λ (b : Bool). is_in set0 d || b) (found_more cells i c d h is ∙ ap (λ (b : Bool). is_some (found (take i cells) d) || b) (eq-eqb c d (sym e)))
        ∙ or_true (is_in set0 d) (is_some (found (take i cells) d)))
    by_place (inr n) =
        others d n ∙ before d
        ∙ ap (λ (b : Bool). is_in set0 d || b) (sym (found_more cells i c d h is ∙ ap (λ (b : Bool). is_some (found (take i cells) d) || b) (ne_eqb c d (λ q. n (sym q))) ∙ or_false (is_some (found (take i cells) d))))
