-- Cells that are marked, one after another.
use Rattle.std.proofs.Common.{◌≡◌, ℕ, ◌+◌, ◌<◌, ◌≤◌, ◌∙◌, sym, ap, refl, arith, Bool, true, false, eqb, leb, ltb, not, eq-eqb, ◌&&◌, ◌||◌, ◌⊎◌, inl, inr, List, [], ◌∷◌, length, take, get_or}
use Rattle.std.proofs.Math.Bool.{or-false}
use Rattle.std.proofs.lemmas.Bool.{cases_eq, cases_lt, ne_eqb, lt-ltb, le-ltb}
use Rattle.std.proofs.lemmas.Grind.{common_steps}
use Rattle.std.proofs.lemmas.List.Folds.{list_any_more}
use Rattle.cell_states.specs.Near.{has}
use Rattle.cell_states.specs.declared.cell.CellRange.{CellRange}
use Rattle.due_cells.specs.Ranges.{covers, is_later, is_marked_else}

eqb_swap : (a b : ℕ) → eqb a b ≡ eqb b a
eqb_swap a b = by_test (cases_eq a b)
  where
    by_test : (a ≡ b) ⊎ (a ≡ b → ⊥) → eqb a b ≡ eqb b a
    by_test (inl e) = eq-eqb a b e ∙ sym (eq-eqb b a (sym e))
    by_test (inr n) = ne_eqb a b n ∙ sym (ne_eqb b a (λ e. n (sym e)))

and_or : (a b c : Bool) → ((a && b) || (a && c)) ≡ (a && (b || c))
and_or true b c = refl
and_or false b c = refl

-- a list of one
pub one_listed : (k c : ℕ) → has (k ∷ []) c ≡ eqb c k
one_listed k c = or-false (eqb k c) ∙ eqb_swap k c

-- one list element more
pub listed_more : (xs : List ℕ) (i t cycle c : ℕ) → i < length xs → (((eqb t cycle) && has (take i xs) c) || ((eqb t cycle) && eqb c (get_or xs i 0))) ≡ ((eqb t cycle) && has (take (i + 1) xs) c)
listed_more xs i t cycle c h =
    and_or (eqb t cycle) (has (take i xs) c) (eqb c (get_or xs i 0))
    ∙ ap (λ b. (eqb t cycle) && (has (take i xs) c || b)) (eqb_swap c (get_or xs i 0))
    ∙ ap (λ b. (eqb t cycle) && b) (sym (list_any_more (λ m. eqb m c) xs i 0 h))

-- one cycle more
within_more : (from to t : ℕ) → from ≤ to → ((leb from t && ltb t to) || eqb t to) ≡ (leb from t && ltb t (to + 1))
within_more from to t h = by_place (cases_lt t to) (cases_eq t to)
  where
    by_place : (t < to) ⊎ (to ≤ t) → (t ≡ to) ⊎ (t ≡ to → ⊥) → ((leb from t && ltb t to) || eqb t to) ≡ (leb from t && ltb t (to + 1))
    by_place (inl k) e = rw (lt-ltb t to k, lt-ltb t (to + 1) (omega arith), ne_eqb t to (λ q. absurd (omega arith))) (or-false (leb from t && true))
    by_place (inr k) (inl e) =
        let low : leb from t ≡ true = grind (arith, common_steps) in
        rw (low, le-ltb t to k, lt-ltb t (to + 1) (omega arith), eq-eqb t to e) refl
    by_place (inr k) (inr n) = rw (le-ltb t to k, le-ltb t (to + 1) (omega (arith, k, n)), ne_eqb t to n) (or-false (leb from t && false))

-- the same, beside a test
pub cycle_more : (b : Bool) (from to t : ℕ) → from ≤ to → ((b && (leb from t && ltb t to)) || ((eqb t to) && b)) ≡ (b && (leb from t && ltb t (to + 1)))
cycle_more b from to t h = by_component b
  where
    and_false : (b : Bool) → (b && false) ≡ false
    and_false true = refl
    and_false false = refl

    and_true : (b : Bool) → (b && true) ≡ b
    and_true true = refl
    and_true false = refl

    by_component : (v : Bool) → ((v && (leb from t && ltb t to)) || ((eqb t to) && v)) ≡ (v && (leb from t && ltb t (to + 1)))
    by_component true = ap (λ b. (leb from t && ltb t to) || b) (and_true (eqb t to)) ∙ within_more from to t h
    by_component false = and_false (eqb t to)

-- one range more
pub ranges_more : (xs : List CellRange) (i to t c : ℕ) (d : CellRange) → i < length xs → (is_marked_else (take i xs) to t c || (not (is_later to (get_or xs i d)) && covers (get_or xs i d) t c)) ≡ is_marked_else (take (i + 1) xs) to t c
ranges_more xs i to t c d h = sym (list_any_more (λ r. not (is_later to r) && covers r t c) xs i d h)
