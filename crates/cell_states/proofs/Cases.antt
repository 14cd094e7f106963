-- Places of a table, one by one.
use Rattle.std.proofs.Common.{◌≡◌, ℕ, ◌<◌, ◌≤◌, ◌∙◌, sym, ap, subst, refl, arith, Bool, true, false, cond, eqb, ◌&&◌, ◌||◌, eq-eqb, ◌⊎◌, inl, inr, List, [], ◌∷◌, length, get_or}
use Rattle.std.specs.List.{AllByRecursion}
use Rattle.std.proofs.Math.ListN.{set, length-set}
use Rattle.std.proofs.lemmas.Bool.{cases_lt, cases_eq, ne_eqb, eqb-true, false≢true, or_cases}
use Rattle.std.proofs.lemmas.List.{get_or-set_same, get_or-set_other, get_or_past}
use Rattle.cell_states.specs.Near.{has}

-- what holds at one place and at each other one
pub at_or_other : (P : ℕ → Type 0) (c k : ℕ) → P c → ((k ≡ c → ⊥) → P k) → P k
at_or_other P c k here other = by_place (cases_eq k c)
  where
    by_place : (k ≡ c) ⊎ (k ≡ c → ⊥) → P k
    by_place (inl e) = subst P (sym e) here
    by_place (inr n) = other n

module _ {X : Type 0} where
  -- a value is changed at one place of a list of rows
  pub at_set : (rows : List (List X)) (t c : ℕ) (x d : X) → t < length rows → c < length (get_or rows t []) → (u e : ℕ) → get_or (get_or (set rows t (set (get_or rows t []) c x)) u []) e d ≡ cond ((eqb u t) && (eqb e c)) x (get_or (get_or rows u []) e d)
  at_set rows t c x d h k u e = by_row (cases_eq u t)
    where
      here : get_or (set rows t (set (get_or rows t []) c x)) t [] ≡ set (get_or rows t []) c x
      here = get_or-set_same rows t _ [] h

      by_place : u ≡ t → (e ≡ c) ⊎ (e ≡ c → ⊥) → get_or (set (get_or rows t []) c x) e d ≡ cond ((eqb u t) && (eqb e c)) x (get_or (get_or rows u []) e d)
      by_place p (inl q) = rw (eq-eqb u t p, eq-eqb e c q) (ap (λ i. get_or (set (get_or rows t []) c x) i d) q ∙ get_or-set_same (get_or rows t []) c x d k)
      by_place p (inr q) = rw (eq-eqb u t p, ne_eqb e c q) (get_or-set_other (get_or rows t []) c e x d q ∙ ap (λ i. get_or (get_or rows i []) e d) (sym p))

      by_row : (u ≡ t) ⊎ (u ≡ t → ⊥) → get_or (get_or (set rows t (set (get_or rows t []) c x)) u []) e d ≡ cond ((eqb u t) && (eqb e c)) x (get_or (get_or rows u []) e d)
      by_row (inl p) = ap (λ i. get_or (get_or (set rows t (set (get_or rows t []) c x)) i []) e d) p ∙ ap (λ row. get_or row e d) here ∙ by_place p (cases_eq e c)
      by_row (inr p) = rw (ne_eqb u t p) (ap (λ row. get_or row e d) (get_or-set_other rows t u _ [] p))

  pub lens_set : (rows : List (List X)) (t c : ℕ) (x : X) (u : ℕ) → length (get_or (set rows t (set (get_or rows t []) c x)) u []) ≡ length (get_or rows u [])
  lens_set rows t c x u = by_row (cases_eq u t) (cases_lt t (length rows))
    where
      by_row : (u ≡ t) ⊎ (u ≡ t → ⊥) → (t < length rows) ⊎ (length rows ≤ t) → length (get_or (set rows t (set (get_or rows t []) c x)) u []) ≡ length (get_or rows u [])
      by_row (inl p) (inl h) = ap (λ i. length (get_or (set rows t (set (get_or rows t []) c x)) i [])) p ∙ ap length (get_or-set_same rows t _ [] h) ∙ length-set (get_or rows t []) c x ∙ ap (λ i. length (get_or rows i [])) (sym p)
      by_row (inl p) (inr h) =
          ap length (get_or_past (set rows t (set (get_or rows t []) c x)) u [] (omega (arith, length-set rows t (set (get_or rows t []) c x), p)))
          ∙ sym (ap length (get_or_past rows u [] (omega (arith, p))))
      by_row (inr p) h = ap length (get_or-set_other rows t u _ [] p)

-- a number that a list has is one of its items
pub has_item : (P : ℕ → Type 0) (ms : List ℕ) (m : ℕ) → AllByRecursion P ms → has ms m ≡ true → P m
has_item P [] m all h = absurd (false≢true h)
has_item P (k ∷ ms) m all h = by_place (or_cases (eqb k m) (has ms m) h) (λ e. has_item P ms m all.1 e)
  where
    by_place : (eqb k m ≡ true) ⊎ (has ms m ≡ true) → (has ms m ≡ true → P m) → P m
    by_place (inl e) rest = subst P (eqb-true k m e) all.0
    by_place (inr e) rest = rest e

pub or_right : (a b : Bool) → b ≡ true → (a || b) ≡ true
or_right true b e = refl
or_right false b e = e

pub or_left : (a b : Bool) → a ≡ true → (a || b) ≡ true
or_left true b e = refl
or_left false b e = absurd (false≢true e)
