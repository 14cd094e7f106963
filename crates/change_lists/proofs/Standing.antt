-- What stands at a cycle, by what begins before it and behind it.
use Rattle.std.proofs.Common.{◌≡◌, ℕ, zero, suc, ◌+◌, ◌<◌, ◌≤◌, ◌∙◌, ◌⊎◌, inl, inr, sym, ap, refl, arith, Bool, true, false, cond, eqb, leb, ◌||◌, Option, None, List, [], ◌∷◌, ◌++◌, drop, length, get_or}
use Rattle.std.proofs.Math.ListN.{set}
use Rattle.std.proofs.Math.Seq.{drop-nil}
use Rattle.std.proofs.lemmas.Bool.{cases_eq, cases_lt, le-leb, lt-leb, eq-eqb, ne_eqb, eqb-true, eqb-false, false≢true, or_parts}
use Rattle.std.proofs.lemmas.List.{get_or_default, get_or-set_same, get_or-set_other}
use Rattle.change_lists.specs.declared.begun.Begun.{Begun}
use Rattle.change_lists.specs.Changes.{Changes, list_at, standing, standing_before, begins, starts, Rises, IsCut}

or_assoc : (a b c : Bool) → (a || (b || c)) ≡ ((a || b) || c)
or_assoc true b c = refl
or_assoc false b c = refl

pub or_none : (a b : Bool) → b ≡ false → (a || b) ≡ a
or_none true b e = refl
or_none false b e = e

module _ {V : Type 0} where
  pub rises_le : (low high : ℕ) (xs : List (Begun V)) → Rises low xs high → low ≤ high
  rises_le low high [] h = h
  rises_le low high (b ∷ rest) h = omega (arith, h.0, rises_le (b.from + 1) high rest h.1)

  pub rises_from : (low mid high : ℕ) (xs : List (Begun V)) → low ≤ mid → Rises mid xs high → Rises low xs high
  rises_from low mid high [] k h = omega (arith, h)
  rises_from low mid high (b ∷ rest) k h = (omega (arith, h.0), h.1)

  pub rises_to : (low mid high : ℕ) (xs : List (Begun V)) → mid ≤ high → Rises low xs mid → Rises low xs high
  rises_to low mid high [] k h = omega (arith, h)
  rises_to low mid high (b ∷ rest) k h = (h.0, rises_to (b.from + 1) mid high rest k h.1)

  pub rises_append : (low mid high : ℕ) (xs ys : List (Begun V)) → Rises low xs mid → Rises mid ys high → Rises low (xs ++ ys) high
  rises_append low mid high [] ys h k = rises_from low mid high ys h k
  rises_append low mid high (b ∷ rest) ys h k = (h.0, rises_append (b.from + 1) mid high rest ys h.1 k)

  pub standing_append : (xs ys : List (Begun V)) (t : ℕ) (o : Option V) → standing (xs ++ ys) t o ≡ standing ys t (standing xs t o)
  standing_append [] ys t o = refl
  standing_append (b ∷ rest) ys t o = standing_append rest ys t (cond (leb b.from t) b.value o)

  -- what begins later doesn't count
  pub standing_late : (low high t : ℕ) (xs : List (Begun V)) (o : Option V) → Rises low xs high → t < low → standing xs t o ≡ o
  standing_late low high t [] o h k = refl
  standing_late low high t (b ∷ rest) o h k =
      standing_late (b.from + 1) high t rest (cond (leb b.from t) b.value o) h.1 (omega (arith, h.0))
      ∙ ap (λ (c : Bool). cond c b.value o) (lt-leb b.from t (omega (arith, h.0)))

  -- where all have begun, it is the same at all cycles
  pub standing_begun : (low high t u : ℕ) (xs : List (Begun V)) (o : Option V) → Rises low xs high → high ≤ t + 1 → high ≤ u + 1 → standing xs t o ≡ standing xs u o
  standing_begun low high t u [] o h k l = refl
  standing_begun low high t u (b ∷ rest) o h k l =
      let m : b.from + 1 ≤ high = rises_le (b.from + 1) high rest h.1 in
      ap (λ (c : Bool). standing rest t (cond c b.value o)) (le-leb b.from t (omega arith))
      ∙ standing_begun (b.from + 1) high t u rest b.value h.1 k l
      ∙ sym (ap (λ (c : Bool). standing rest u (cond c b.value o)) (le-leb b.from u (omega arith)))

  -- where the first has begun, what stood before makes no difference
  pub standing_over : (t u : ℕ) (xs : List (Begun V)) (o p : Option V) → starts xs t ≡ true → t ≤ u → standing xs u o ≡ standing xs u p
  standing_over t u [] o p s k = absurd (false≢true s)
  standing_over t u (b ∷ rest) o p s k =
      let e : b.from ≡ t = eqb-true b.from t s in
      let y : leb b.from u ≡ true = le-leb b.from u (omega arith) in
      ap (λ (c : Bool). standing rest u (cond c b.value o)) y ∙ sym (ap (λ (c : Bool). standing rest u (cond c b.value p)) y)

  pub begins_append : (xs ys : List (Begun V)) (t : ℕ) → begins (xs ++ ys) t ≡ (begins xs t || begins ys t)
  begins_append [] ys t = refl
  begins_append (b ∷ rest) ys t = ap (λ (c : Bool). eqb b.from t || c) (begins_append rest ys t) ∙ or_assoc (eqb b.from t) (begins rest t) (begins ys t)

  pub begins_late : (low high t : ℕ) (xs : List (Begun V)) → Rises low xs high → t < low → begins xs t ≡ false
  begins_late low high t [] h k = refl
  begins_late low high t (b ∷ rest) h k =
      ap (λ (c : Bool). c || begins rest t) (ne_eqb b.from t (λ e. absurd (omega (arith, h.0, e))))
      ∙ begins_late (b.from + 1) high t rest h.1 (omega (arith, h.0))

  pub begins_early : (low high t : ℕ) (xs : List (Begun V)) → Rises low xs high → high ≤ t → begins xs t ≡ false
  begins_early low high t [] h k = refl
  begins_early low high t (b ∷ rest) h k =
      ap (λ (c : Bool). c || begins rest t) (ne_eqb b.from t (λ e. absurd (omega (arith, e, rises_le (b.from + 1) high rest h.1))))
      ∙ begins_early (b.from + 1) high t rest h.1 k

  pub begins_first : (high t : ℕ) (xs : List (Begun V)) → Rises t xs high → begins xs t ≡ starts xs t
  begins_first high t [] h = refl
  begins_first high t (b ∷ rest) h = or_none (eqb b.from t) (begins rest t) (begins_late (b.from + 1) high t rest h.1 (omega (arith, h.0)))

  -- where the first doesn't begin at a cycle, all begin later
  pub rises_later : (high t : ℕ) (xs : List (Begun V)) → Rises t xs high → starts xs t ≡ false → t < high → Rises (t + 1) xs high
  rises_later high t [] h s k = omega arith
  rises_later high t (b ∷ rest) h s k = (omega (arith, h.0, eqb-false b.from t s), h.1)

  -- where none begins at some cycles, the first begins later
  pub rises_behind : (low high to : ℕ) (xs : List (Begun V)) → Rises low xs high → to ≤ high → ((u : ℕ) → low ≤ u → u < to → begins xs u ≡ false) → Rises to xs high
  rises_behind low high to [] h k none = k
  rises_behind low high to (b ∷ rest) h k none = (by_place (cases_lt b.from to), h.1)
    where
      by_place : (b.from < to) ⊎ (to ≤ b.from) → to ≤ b.from
      by_place (inr l) = l
      by_place (inl l) = absurd (false≢true (sym (or_parts (eqb b.from b.from) (begins rest b.from) (none b.from h.0 l)).0 ∙ eq-eqb b.from b.from refl))

  stays_on : (xs : List (Begun V)) (t : ℕ) (o : Option V) → begins xs (suc t) ≡ false → standing xs (suc t) o ≡ standing xs t o
  stays_on [] t o e = refl
  stays_on (b ∷ rest) t o e =
      let parts = or_parts (eqb b.from (suc t)) (begins rest (suc t)) e in
      ap (λ (c : Bool). standing rest (suc t) (cond c b.value o)) (same_test (eqb-false b.from (suc t) parts.0) (cases_lt t b.from))
      ∙ stays_on rest t (cond (leb b.from t) b.value o) parts.1
    where
      same_test : (b.from ≡ suc t → ⊥) → (t < b.from) ⊎ (b.from ≤ t) → leb b.from (suc t) ≡ leb b.from t
      same_test n (inl l) = lt-leb b.from (suc t) (omega (arith, n, l)) ∙ sym (lt-leb b.from t l)
      same_test n (inr l) = le-leb b.from (suc t) (omega (arith, l)) ∙ sym (le-leb b.from t l)

  none_yet : (xs : List (Begun V)) (o : Option V) → begins xs 0 ≡ false → standing xs 0 o ≡ o
  none_yet [] o e = refl
  none_yet (b ∷ rest) o e =
      let parts = or_parts (eqb b.from 0) (begins rest 0) e in
      ap (λ (c : Bool). standing rest 0 (cond c b.value o)) (lt-leb b.from 0 (omega (arith, eqb-false b.from 0 parts.0)))
      ∙ none_yet rest o parts.1

  -- where none begins, what stood before a cycle stands on
  pub steady : (xs : List (Begun V)) (t : ℕ) → begins xs t ≡ false → standing xs t None ≡ standing_before xs t
  steady xs zero e = none_yet xs None e
  steady xs (suc t) e = stays_on xs t None e

  -- nothing begins of an empty list, and only of one
  pub starts_of_none : (xs : List (Begun V)) (i t : ℕ) → xs ≡ [] → starts (drop i xs) t ≡ false
  starts_of_none xs i t e = ap (λ ys. starts (drop i ys) t) e ∙ ap (λ ys. starts ys t) (drop-nil i)

  pub none_begins : (xs : List (Begun V)) → ((t : ℕ) → begins xs t ≡ false) → xs ≡ []
  none_begins [] h = refl
  none_begins (b ∷ rest) h = absurd (false≢true (sym (h b.from) ∙ ap (λ u. u || begins rest b.from) (eq-eqb b.from b.from refl)))

  -- where nothing begins for a component, nothing does once the changes of one are others
  pub none_set : (lists : List (Changes V)) (c d : ℕ) (x y : Changes V) → c < length lists → y ≡ get_or lists c y → (y.begun ≡ [] → x.begun ≡ []) → list_at lists d ≡ [] → list_at (set lists c x) d ≡ []
  none_set lists c d x y there was kept none = by_place (cases_eq d c)
    where
      by_place : (d ≡ c) ⊎ (d ≡ c → ⊥) → list_at (set lists c x) d ≡ []
      by_place (inl e) =
          let old : y.begun ≡ list_at lists c = ap (λ z. z.begun) (was ∙ get_or_default lists c y (record { begun = []; room = 0 }) there) in
          let mine : list_at lists c ≡ [] = ap (list_at lists) (sym e) ∙ none in
          ap (list_at (set lists c x)) e ∙ ap (λ z. z.begun) (get_or-set_same lists c x (record { begun = []; room = 0 }) there) ∙ kept (old ∙ mine)
      by_place (inr ne) = ap (λ z. z.begun) (get_or-set_other lists c d x (record { begun = []; room = 0 }) ne) ∙ none

  -- nor once all that begins from a cycle on was removed
  pub none_cut : (olds news : List (Changes V)) (d n m : ℕ) → ((c : ℕ) → c < m → IsCut (list_at olds c) (list_at news c) n) → ((c : ℕ) → m ≤ c → list_at news c ≡ list_at olds c) → list_at olds d ≡ [] → list_at news d ≡ []
  none_cut olds news d n m done rest none = by_place (cases_lt d m)
    where
      by_cycle : IsCut (list_at olds d) (list_at news d) n → (t : ℕ) → (t < n) ⊎ (n ≤ t) → begins (list_at news d) t ≡ false
      by_cycle cut t (inl h) = cut.begin_earlier t h ∙ ap (λ xs. begins xs t) none
      by_cycle cut t (inr h) = cut.begin_later t h

      by_place : (d < m) ⊎ (m ≤ d) → list_at news d ≡ []
      by_place (inl h) = none_begins (list_at news d) (λ t. by_cycle (done d h) t (cases_lt t n))
      by_place (inr h) = rest d h ∙ none
