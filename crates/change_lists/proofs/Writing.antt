-- A change list with another value at some cycles.
use Rattle.std.proofs.Common.{◌≡◌, ℕ, zero, suc, ◌+◌, ◌-◌, ◌<◌, ◌≤◌, ◌∙◌, ◌⊎◌, inl, inr, sym, ap, subst, refl, arith, Bool, true, false, cond, eqb, ◌||◌, Option, None, List, [], ◌∷◌, ◌++◌, length, take, drop, get_or, length-append, append_assoc}
use Rattle.std.proofs.lemmas.Bool.{cases_lt, cases_order, le-leb, eq-eqb, ne_eqb, false≢true, or_left, or_right, or_parts}
use Rattle.std.proofs.lemmas.List.{take-append-drop, take_at, drop_at, length-take-le}
use Rattle.change_lists.specs.declared.begun.Begun.{Begun}
use Rattle.change_lists.specs.Changes.{standing, standing_before, begins, starts, Rises, IsPlace, IsWritten, IsCut}
use Rattle.change_lists.proofs.Standing.{or_none, rises_le, rises_from, rises_append, standing_append, standing_late, standing_begun, standing_over, begins_append, begins_late, begins_early, rises_later, rises_behind, rises_to}
use Rattle.change_lists.proofs.Places.{split_low, split_high, first_at, begins_at_place}

or_last : (b : Bool) → (b || true) ≡ true
or_last true = refl
or_last false = refl

-- what begins before cycle `from`, at it in the old list and in the new one, and from cycle `to` on
module _ {V : Type 0} (before old_here new_here rest : List (Begun V)) (from to end high : ℕ) (value stood : Option V)
    (some : from < to)
    (early : Rises 0 before from)
    (old_is : Rises from old_here (from + 1))
    (new_is : Rises from new_here (from + 1))
    (late : Rises to rest high)
    (value_is : standing new_here from (standing before from None) ≡ value)
    (stood_is : standing old_here (to - 1) (standing before (to - 1) None) ≡ stood) where
  abbrev old : List (Begun V)
  old = before ++ (old_here ++ rest)

  abbrev last : Begun V
  last = record { from = to; value = stood }

  abbrev tail : Bool → List (Begun V)
  tail again = cond again (last ∷ rest) rest

  abbrev new : Bool → List (Begun V)
  new again = before ++ (new_here ++ tail again)

  abbrev Yes : Bool → Type 0
  Yes again = again ≡ true → (to < end) × Rises (to + 1) rest high

  abbrev No : Bool → Type 0
  No again = again ≡ false → (end ≤ to) ⊎ (starts rest to ≡ true)

  tail_rises : (again : Bool) → Yes again → Rises to (tail again) high
  tail_rises true on = (omega arith, (on refl).1)
  tail_rises false on = late

  split_old : (t : ℕ) → standing old t None ≡ standing rest t (standing old_here t (standing before t None))
  split_old t = standing_append before (old_here ++ rest) t None ∙ standing_append old_here rest t (standing before t None)

  split_new : (again : Bool) (t : ℕ) → standing (new again) t None ≡ standing (tail again) t (standing new_here t (standing before t None))
  split_new again t = standing_append before (new_here ++ tail again) t None ∙ standing_append new_here (tail again) t (standing before t None)

  old_early : (t : ℕ) → t < from → standing old t None ≡ standing before t None
  old_early t l =
      split_old t
      ∙ standing_late to high t rest (standing old_here t (standing before t None)) late (omega (arith, some))
      ∙ standing_late from (from + 1) t old_here (standing before t None) old_is l

  old_late : (t : ℕ) → to ≤ t → standing old t None ≡ standing rest t stood
  old_late t l =
      split_old t
      ∙ ap (λ (o : Option V). standing rest t o)
      (standing_begun from (from + 1) t (to - 1) old_here (standing before t None) old_is (omega (arith, some)) (omega (arith, some))
      ∙ ap (λ (o : Option V). standing old_here (to - 1) o) (standing_begun 0 from t (to - 1) before None early (omega (arith, some)) (omega (arith, some)))
      ∙ stood_is)

  old_last : standing old (to - 1) None ≡ stood
  old_last =
      split_old (to - 1)
      ∙ standing_late to high (to - 1) rest (standing old_here (to - 1) (standing before (to - 1) None)) late (omega (arith, some))
      ∙ stood_is

  at_here : (again : Bool) → Yes again → (t : ℕ) → from ≤ t → t < to → standing (new again) t None ≡ value
  at_here again on t l m =
      split_new again t
      ∙ standing_late to high t (tail again) (standing new_here t (standing before t None)) (tail_rises again on) m
      ∙ standing_begun from (from + 1) t from new_here (standing before t None) new_is (omega arith) (omega arith)
      ∙ ap (λ (o : Option V). standing new_here from o) (standing_begun 0 from t from before None early (omega arith) (omega arith))
      ∙ value_is

  at_early : (again : Bool) → Yes again → (t : ℕ) → t < from → standing (new again) t None ≡ standing old t None
  at_early again on t l =
      split_new again t
      ∙ standing_late to high t (tail again) (standing new_here t (standing before t None)) (tail_rises again on) (omega (arith, some))
      ∙ standing_late from (from + 1) t new_here (standing before t None) new_is l
      ∙ sym (old_early t l)

  at_late : (again : Bool) → No again → (t : ℕ) → to ≤ t → t < end → standing (new again) t None ≡ standing old t None
  at_late true off t l m =
      split_new true t
      ∙ ap (λ (c : Bool). standing rest t (cond c stood (standing new_here t (standing before t None)))) (le-leb to t l)
      ∙ sym (old_late t l)
  at_late false off t l m = by_end (off refl)
    where
      by_end : (end ≤ to) ⊎ (starts rest to ≡ true) → standing (new false) t None ≡ standing old t None
      by_end (inl k) = absurd (omega (arith, k))
      by_end (inr s) = split_new false t ∙ standing_over to t rest (standing new_here t (standing before t None)) stood s l ∙ sym (old_late t l)

  none_here : (here : List (Begun V)) (t : ℕ) → Rises from here (from + 1) → (t ≡ from → ⊥) → begins here t ≡ false
  none_here here t h n = by_place (cases_lt t from)
    where
      by_place : (t < from) ⊎ (from ≤ t) → begins here t ≡ false
      by_place (inl l) = begins_late from (from + 1) t here h l
      by_place (inr l) = begins_early from (from + 1) t here h (omega (arith, l, n))

  begins_of : (here more : List (Begun V)) (t : ℕ) → Rises from here (from + 1) → (t ≡ from → ⊥) → begins (before ++ (here ++ more)) t ≡ (begins before t || begins more t)
  begins_of here more t h n =
      begins_append before (here ++ more) t
      ∙ ap (λ (b : Bool). begins before t || b) (begins_append here more t ∙ ap (λ (b : Bool). b || begins more t) (none_here here t h n))

  begins_end : (here more : List (Begun V)) → Rises from here (from + 1) → begins (before ++ (here ++ more)) to ≡ begins more to
  begins_end here more h =
      begins_of here more to h (λ e. absurd (omega (arith, some, e)))
      ∙ ap (λ (b : Bool). b || begins more to) (begins_early 0 from to before early (omega (arith, some)))

  again_is : (again : Bool) → begins (tail again) to ≡ (begins rest to || again)
  again_is true = ap (λ (b : Bool). b || begins rest to) (eq-eqb to to refl) ∙ sym (or_last (begins rest to))
  again_is false = sym (or_none (begins rest to) false refl)

  tail_else : (again : Bool) (t : ℕ) → (t ≡ to → ⊥) → begins (tail again) t ≡ begins rest t
  tail_else true t n = ap (λ (b : Bool). b || begins rest t) (ne_eqb to t (λ e. n (sym e)))
  tail_else false t n = refl

  begin_else : (again : Bool) (t : ℕ) → (t ≡ from → ⊥) → (t ≡ to → ⊥) → begins (new again) t ≡ begins old t
  begin_else again t n m = begins_of new_here (tail again) t new_is n ∙ ap (λ (b : Bool). begins before t || b) (tail_else again t m) ∙ sym (begins_of old_here rest t old_is n)

  goes : (again : Bool) → Yes again → again ≡ true → (to < end) × (begins old to ≡ false) × (standing (new again) to None ≡ standing old (to - 1) None)
  goes false on e = absurd (false≢true e)
  goes true on e = (
    (on e).0,
    begins_end old_here rest old_is ∙ begins_late (to + 1) high to rest (on e).1 (omega arith),
    split_new true to
        ∙ ap (λ (c : Bool). standing rest to (cond c stood (standing new_here to (standing before to None)))) (le-leb to to (omega arith))
        ∙ standing_late (to + 1) high to rest stood (on e).1 (omega arith)
        ∙ sym old_last,
  )

  pub written : (again : Bool) → Yes again → No again → IsWritten old (new again) from to end value again
  written again on off = record {
    here = at_here again on;
    earlier = at_early again on;
    later = at_late again off;
    begin_again = begins_end new_here (tail again) new_is ∙ again_is again ∙ ap (λ (b : Bool). b || again) (sym (begins_end old_here rest old_is));
    begin_earlier = λ t l. begin_else again t (λ e. absurd (omega (arith, e, l))) (λ e. absurd (omega (arith, e, l, some)));
    begin_within = λ t l m. begins_of new_here (tail again) t new_is (λ e. absurd (omega (arith, e, l))) ∙ ap (λ (b : Bool). b || begins (tail again) t) (begins_early 0 from t before early (omega (arith, l))) ∙ begins_late to high t (tail again) (tail_rises again on) m;
    begin_later = λ t l. begin_else again t (λ e. absurd (omega (arith, e, l, some))) (λ e. absurd (omega (arith, e, l)));
    goes_on = goes again on;
  }

  pub new_rises : (again : Bool) → Yes again → Rises 0 (new again) high
  new_rises again on =
      rises_append 0 from high before (new_here ++ tail again) early
      (rises_append from (from + 1) high new_here (tail again) new_is
      (rises_from (from + 1) to high (tail again) (omega (arith, some)) (tail_rises again on)))

module _ {V : Type 0} where
  -- what stands before a cycle is that of those that begin before it
  before_is : (xs ys : List (Begun V)) (from high t : ℕ) → Rises 0 xs from → Rises from ys high → from ≤ t + 1 → standing xs t None ≡ standing_before (xs ++ ys) from
  before_is [] ys zero high t h k l = refl
  before_is (b ∷ xs) ys zero high t h k l = absurd (omega (arith, rises_le (b.from + 1) 0 xs h.1))
  before_is xs ys (suc s) high t h k l =
      standing_begun 0 (suc s) t s xs None h l (omega arith)
      ∙ sym (standing_append xs ys s None ∙ standing_late (suc s) high s ys (standing xs s None) k (omega arith))

-- a value is put
module _ {V : Type 0} (xs : List (Begun V)) (t i end high : ℕ) (value : Option V) (stood : Option V) (again : Bool)
    (rises : Rises 0 xs high) (low : t + 1 < high) (place : IsPlace xs t i) (stood_is : stood ≡ standing xs t None) where
  abbrev with_value : List (Begun V) → List (Begun V)
  with_value rest = take i xs ++ ((record { from = t; value = value }) ∷ (cond again ((record { from = t + 1; value = stood }) ∷ rest) rest))

  abbrev Put : List (Begun V) → Type 0
  Put new = IsWritten xs new t (t + 1) end value again × Rises 0 new high × (begins new t ≡ true)

  early : Rises 0 (take i xs) t
  early = split_low 0 high t i xs rises (omega arith) place

  late : Rises t (drop i xs) high
  late = split_high 0 high t i xs rises (omega (arith, low)) place

  back : t + 1 - 1 ≡ t
  back = omega arith

  put_over : (here rest : List (Begun V)) → drop i xs ≡ here ++ rest → Rises t here (t + 1) → Rises (t + 1) rest high → (again ≡ true → (t + 1 < end) × (starts rest (t + 1) ≡ false)) → (again ≡ false → t + 1 < end → starts rest (t + 1) ≡ true) → Put (with_value rest)
  put_over here rest split here_is rest_is on off = (
    subst (λ ys. IsWritten ys (with_value rest) t (t + 1) end value again) whole
        (written (take i xs) here ((record { from = t; value = value }) ∷ []) rest t (t + 1) end high value stood (omega arith) early here_is now_is rest_is value_is stands again goes ends),
    new_rises (take i xs) here ((record { from = t; value = value }) ∷ []) rest t (t + 1) end high value stood (omega arith) early here_is now_is rest_is value_is stands again goes,
    begins_append (take i xs) ((record { from = t; value = value }) ∷ (cond again ((record { from = t + 1; value = stood }) ∷ rest) rest)) t
        ∙ or_right (begins (take i xs) t) (eqb t t || begins (cond again ((record { from = t + 1; value = stood }) ∷ rest) rest) t) (or_left (eqb t t) (begins (cond again ((record { from = t + 1; value = stood }) ∷ rest) rest) t) (eq-eqb t t refl)),
  )
    where
      now_is : Rises t ((record { from = t; value = value }) ∷ []) (t + 1)
      now_is = (omega arith, omega arith)

      whole : take i xs ++ (here ++ rest) ≡ xs
      whole = ap (λ ys. take i xs ++ ys) (sym split) ∙ take-append-drop i xs

      value_is : standing ((record { from = t; value = value }) ∷ []) t (standing (take i xs) t None) ≡ value
      value_is = ap (λ (c : Bool). cond c value (standing (take i xs) t None)) (le-leb t t (omega arith))

      at_t : standing here t (standing (take i xs) t None) ≡ stood
      at_t =
          sym (ap (λ ys. standing ys t None) (sym whole)
          ∙ standing_append (take i xs) (here ++ rest) t None
          ∙ standing_append here rest t (standing (take i xs) t None)
          ∙ standing_late (t + 1) high t rest (standing here t (standing (take i xs) t None)) rest_is (omega arith))
          ∙ sym stood_is

      stands : standing here (t + 1 - 1) (standing (take i xs) (t + 1 - 1) None) ≡ stood
      stands = subst (λ u. standing here u (standing (take i xs) u None) ≡ stood) (sym back) at_t

      goes : again ≡ true → (t + 1 < end) × Rises (t + 1 + 1) rest high
      goes e = ((on e).0, rises_later high (t + 1) rest rest_is (on e).1 low)

      ends : again ≡ false → (end ≤ t + 1) ⊎ (starts rest (t + 1) ≡ true)
      ends e = by_place (cases_lt (t + 1) end)
        where
          by_place : (t + 1 < end) ⊎ (end ≤ t + 1) → (end ≤ t + 1) ⊎ (starts rest (t + 1) ≡ true)
          by_place (inl l) = inr (off e l)
          by_place (inr l) = inl l

  pub put_at : (here : Bool) → here ≡ starts (drop i xs) t → (again ≡ true → (t + 1 < end) × (starts (drop (cond here (i + 1) i) xs) (t + 1) ≡ false)) → (again ≡ false → t + 1 < end → starts (drop (cond here (i + 1) i) xs) (t + 1) ≡ true) → Put (with_value (drop (cond here (i + 1) i) xs))
  put_at true s on off =
      let d : Begun V = record { from = 0; value = None } in
      let f = first_at high xs i t d late (sym s) in
      put_over (get_or xs i d ∷ []) (drop (i + 1) xs) f.1 (omega (arith, f.2), omega (arith, f.2)) f.3 on off
  put_at false s on off =
      put_over [] (drop i xs) refl (omega arith) (rises_later high t (drop i xs) late (sym s) (omega (arith, low))) on off

-- the one behind is put in its turn
pub put_twice : {V : Type 0} (xs rest : List (Begun V)) (i : ℕ) (x y : Begun V) (again : Bool) → i ≤ length xs → take (i + 1) (take i xs ++ x ∷ rest) ++ cond again (y ∷ drop (i + 1) (take i xs ++ x ∷ rest)) (drop (i + 1) (take i xs ++ x ∷ rest)) ≡ take i xs ++ x ∷ cond again (y ∷ rest) rest
put_twice xs rest i x y again l =
    ap (λ zs. take (i + 1) zs ++ cond again (y ∷ drop (i + 1) zs) (drop (i + 1) zs)) (sym joined)
    ∙ ap (λ zs. zs ++ cond again (y ∷ drop (i + 1) ((take i xs ++ x ∷ []) ++ rest)) (drop (i + 1) ((take i xs ++ x ∷ []) ++ rest))) (take_at (take i xs ++ x ∷ []) rest (i + 1) len)
    ∙ ap (λ zs. (take i xs ++ x ∷ []) ++ cond again (y ∷ zs) zs) (drop_at (take i xs ++ x ∷ []) rest (i + 1) len)
    ∙ append_assoc (take i xs) (x ∷ []) (cond again (y ∷ rest) rest)
  where
    joined : (take i xs ++ x ∷ []) ++ rest ≡ take i xs ++ x ∷ rest
    joined = append_assoc (take i xs) (x ∷ []) rest

    len : length (take i xs ++ x ∷ []) ≡ i + 1
    len = omega (arith, length-append (take i xs) (x ∷ []), length-take-le i xs l)

-- what stood goes on
module _ {V : Type 0} (xs : List (Begun V)) (from to i end high : ℕ)
    (some : from < to) (rises : Rises 0 xs high) (low : to < high) (place : IsPlace xs from i)
    (none : (u : ℕ) → from < u → u < to → begins xs u ≡ false) where
  low_is : Rises 0 (take i xs) from
  low_is = split_low 0 high from i xs rises (omega arith) place

  high_is : Rises from (drop i xs) high
  high_is = split_high 0 high from i xs rises (omega (arith, some, low)) place

  none_in : (front rest : List (Begun V)) → xs ≡ front ++ rest → (u : ℕ) → from + 1 ≤ u → u < to → begins rest u ≡ false
  none_in front rest e u l m = (or_parts (begins front u) (begins rest u) (sym (begins_append front rest u) ∙ ap (λ ys. begins ys u) (sym e) ∙ none u (omega arith) m)).1

  pub go_on_none : starts (drop i xs) from ≡ false → IsWritten xs xs from to end (standing_before xs from) false × (begins xs from ≡ false)
  go_on_none s = (
    record {
      here = λ u l m. stands u l m;
      earlier = λ u l. refl;
      later = λ u l m. refl;
      begin_again = sym (or_none (begins xs to) false refl);
      begin_earlier = λ u l. refl;
      begin_within = λ u l m. none u l m;
      begin_later = λ u l. refl;
      goes_on = λ e. absurd (false≢true e);
    },
    begins_at_place high from i xs rises (omega (arith, some, low)) place ∙ s,
  )
    where
      rest_is : Rises to (drop i xs) high
      rest_is = rises_behind (from + 1) high to (drop i xs) (rises_later high from (drop i xs) high_is s (omega (arith, some, low))) (omega (arith, low)) (none_in (take i xs) (drop i xs) (sym (take-append-drop i xs)))

      stands : (u : ℕ) → from ≤ u → u < to → standing xs u None ≡ standing_before xs from
      stands u l m =
          ap (λ ys. standing ys u None) (sym (take-append-drop i xs))
          ∙ standing_append (take i xs) (drop i xs) u None
          ∙ standing_late to high u (drop i xs) (standing (take i xs) u None) rest_is m
          ∙ before_is (take i xs) (drop i xs) from high u low_is high_is (omega (arith, l))
          ∙ ap (λ ys. standing_before ys from) (take-append-drop i xs)

  abbrev on_again : Bool → Begun V → List (Begun V)
  on_again again d = take i xs ++ cond again ((record { from = to; value = (get_or xs i d).value }) ∷ drop (i + 1) xs) (drop (i + 1) xs)

  pub go_on_at : (again : Bool) (d : Begun V) → starts (drop i xs) from ≡ true → (again ≡ true → (to < end) × (starts (drop (i + 1) xs) to ≡ false)) → (again ≡ false → to < end → starts (drop (i + 1) xs) to ≡ true) → IsWritten xs (on_again again d) from to end (standing_before xs from) again × Rises 0 (on_again again d) high × (begins (on_again again d) from ≡ false)
  go_on_at again d s on off = (
    subst (λ ys. IsWritten ys (on_again again d) from to end (standing_before xs from) again) whole
        (written (take i xs) (get_or xs i d ∷ []) [] (drop (i + 1) xs) from to end high (standing_before xs from) (get_or xs i d).value some low_is one_is nothing_is rest_is value_is stands again goes ends),
    new_rises (take i xs) (get_or xs i d ∷ []) [] (drop (i + 1) xs) from to end high (standing_before xs from) (get_or xs i d).value some low_is one_is nothing_is rest_is value_is stands again goes,
    begins_append (take i xs) (cond again ((record { from = to; value = (get_or xs i d).value }) ∷ drop (i + 1) xs) (drop (i + 1) xs)) from
        ∙ ap (λ (b : Bool). b || begins (cond again ((record { from = to; value = (get_or xs i d).value }) ∷ drop (i + 1) xs) (drop (i + 1) xs)) from) (begins_early 0 from from (take i xs) low_is (omega arith))
        ∙ begins_late to high from (cond again ((record { from = to; value = (get_or xs i d).value }) ∷ drop (i + 1) xs) (drop (i + 1) xs)) (tail_is again goes) some,
  )
    where
      f : (i < length xs) × (drop i xs ≡ get_or xs i d ∷ drop (i + 1) xs) × ((get_or xs i d).from ≡ from) × Rises (from + 1) (drop (i + 1) xs) high
      f = first_at high xs i from d high_is s

      one_is : Rises from (get_or xs i d ∷ []) (from + 1)
      one_is = (omega (arith, f.2), omega (arith, f.2))

      nothing_is : from ≤ from + 1
      nothing_is = omega arith

      whole : take i xs ++ (get_or xs i d ∷ drop (i + 1) xs) ≡ xs
      whole = ap (λ ys. take i xs ++ ys) (sym f.1) ∙ take-append-drop i xs

      front : xs ≡ (take i xs ++ get_or xs i d ∷ []) ++ drop (i + 1) xs
      front = sym (append_assoc (take i xs) (get_or xs i d ∷ []) (drop (i + 1) xs) ∙ whole)

      rest_is : Rises to (drop (i + 1) xs) high
      rest_is = rises_behind (from + 1) high to (drop (i + 1) xs) f.3 (omega (arith, low)) (none_in (take i xs ++ get_or xs i d ∷ []) (drop (i + 1) xs) front)

      value_is : standing (take i xs) from None ≡ standing_before xs from
      value_is =
          before_is (take i xs) (drop i xs) from high from low_is high_is (omega arith)
          ∙ ap (λ ys. standing_before ys from) (take-append-drop i xs)

      stands : standing (get_or xs i d ∷ []) (to - 1) (standing (take i xs) (to - 1) None) ≡ (get_or xs i d).value
      stands = ap (λ (c : Bool). cond c (get_or xs i d).value (standing (take i xs) (to - 1) None)) (le-leb (get_or xs i d).from (to - 1) (omega (arith, f.2, some)))

      goes : again ≡ true → (to < end) × Rises (to + 1) (drop (i + 1) xs) high
      goes e = ((on e).0, rises_later high to (drop (i + 1) xs) rest_is (on e).1 low)

      ends : again ≡ false → (end ≤ to) ⊎ (starts (drop (i + 1) xs) to ≡ true)
      ends e = by_place (cases_lt to end)
        where
          by_place : (to < end) ⊎ (end ≤ to) → (end ≤ to) ⊎ (starts (drop (i + 1) xs) to ≡ true)
          by_place (inl l) = inr (off e l)
          by_place (inr l) = inl l

      tail_is : (b : Bool) → (b ≡ true → (to < end) × Rises (to + 1) (drop (i + 1) xs) high) → Rises to (cond b ((record { from = to; value = (get_or xs i d).value }) ∷ drop (i + 1) xs) (drop (i + 1) xs)) high
      tail_is true g = (omega arith, (g refl).1)
      tail_is false g = rest_is

-- nothing begins from a cycle on
pub cut_at : {V : Type 0} (xs : List (Begun V)) (n i high : ℕ) → Rises 0 xs high → n < high → IsPlace xs n i → IsCut xs (take i xs) n × Rises 0 (take i xs) high
cut_at xs n i high rises l place = (
  record {
    earlier = λ t k. sym (ap (λ ys. standing ys t None) (sym (take-append-drop i xs)) ∙ standing_append (take i xs) (drop i xs) t None ∙ standing_late n high t (drop i xs) (standing (take i xs) t None) late k);
    begin_earlier = λ t k. sym (ap (λ ys. begins ys t) (sym (take-append-drop i xs)) ∙ begins_append (take i xs) (drop i xs) t ∙ or_none (begins (take i xs) t) (begins (drop i xs) t) (begins_late n high t (drop i xs) late k));
    begin_later = λ t k. begins_early 0 n t (take i xs) early k;
  },
  rises_to 0 n high (take i xs) (omega (arith, l)) early,
)
  where
    early : Rises 0 (take i xs) n
    early = split_low 0 high n i xs rises (omega arith) place

    late : Rises n (drop i xs) high
    late = split_high 0 high n i xs rises (omega (arith, l)) place

-- as the code does it: each slice is the list
pub put_done : {V : Type 0} (xs a b d n m : List (Begun V)) (t i next end high : ℕ) (value : Option V) (stood : Option V) (here again : Bool) → a ≡ xs → b ≡ xs → d ≡ xs → Rises 0 xs high → t + 1 < high → IsPlace a t i → stood ≡ standing xs t None → here ≡ starts (drop i b) t → next ≡ cond here (i + 1) i → (again ≡ true → (t + 1 < end) × (starts (drop next d) (t + 1) ≡ false)) → (again ≡ false → t + 1 < end → starts (drop next d) (t + 1) ≡ true) → n ≡ take i xs ++ (record { from = t; value = value }) ∷ drop (cond here (i + 1) i) xs → m ≡ take (i + 1) n ++ cond again ((record { from = t + 1; value = stood }) ∷ drop (i + 1) n) (drop (i + 1) n) → IsWritten xs m t (t + 1) end value again × Rises 0 m high × (begins m t ≡ true)
put_done {V} xs a b d n m t i next end high value stood here again ea eb ed rises low place stood_is here_is next_is on off n_is m_is =
    let p : IsPlace xs t i = subst (λ ys. IsPlace ys t i) ea place in
    let q : starts (drop next d) (t + 1) ≡ starts (drop (cond here (i + 1) i) xs) (t + 1) = ap (λ ys. starts (drop next ys) (t + 1)) ed ∙ ap (λ k. starts (drop k xs) (t + 1)) next_is in
    let w = put_at xs t i end high value stood again rises low p stood_is here (here_is ∙ ap (λ ys. starts (drop i ys) t) eb) (λ e. ((on e).0, sym q ∙ (on e).1)) (λ e l. sym q ∙ off e l) in
    let s : m ≡ take i xs ++ (record { from = t; value = value }) ∷ cond again ((record { from = t + 1; value = stood }) ∷ drop (cond here (i + 1) i) xs) (drop (cond here (i + 1) i) xs) =
    m_is
    ∙ ap (λ zs. take (i + 1) zs ++ cond again ((record { from = t + 1; value = stood }) ∷ drop (i + 1) zs) (drop (i + 1) zs)) n_is
    ∙ put_twice xs (drop (cond here (i + 1) i) xs) i (record { from = t; value = value }) (record { from = t + 1; value = stood }) again p.within in
    subst (λ (ys : List (Begun V)). IsWritten xs ys t (t + 1) end value again × Rises 0 ys high × (begins ys t ≡ true)) (sym s) w

pub go_on_done : {V : Type 0} (xs a b d m : List (Begun V)) (from to i end high : ℕ) (again : Bool) → a ≡ xs → b ≡ xs → d ≡ xs → from < to → Rises 0 xs high → to < high → IsPlace a from i → ((u : ℕ) → from < u → u < to → begins xs u ≡ false) → starts (drop i b) from ≡ true → (again ≡ true → (to < end) × (starts (drop (i + 1) d) to ≡ false)) → (again ≡ false → to < end → starts (drop (i + 1) d) to ≡ true) → ((e : Begun V) → m ≡ take i xs ++ cond again ((record { from = to; value = (get_or xs i e).value }) ∷ drop (i + 1) xs) (drop (i + 1) xs)) → IsWritten xs m from to end (standing_before xs from) again × Rises 0 m high × (begins m from ≡ false)
go_on_done {V} xs a b d m from to i end high again ea eb ed some rises low place none here_is on off m_is =
    let e : Begun V = record { from = 0; value = None } in
    let p : IsPlace xs from i = subst (λ ys. IsPlace ys from i) ea place in
    let q : starts (drop (i + 1) d) to ≡ starts (drop (i + 1) xs) to = ap (λ ys. starts (drop (i + 1) ys) to) ed in
    let w = go_on_at xs from to i end high some rises low p none again e (ap (λ ys. starts (drop i ys) from) (sym eb) ∙ here_is) (λ k. ((on k).0, sym q ∙ (on k).1)) (λ k l. sym q ∙ off k l) in
    subst (λ (ys : List (Begun V)). IsWritten xs ys from to end (standing_before xs from) again × Rises 0 ys high × (begins ys from ≡ false)) (sym (m_is e)) w

-- what goes on to a cycle goes on behind it too
pub on_further : {V : Type 0} (a b d : List (Begun V)) (from mid to end : ℕ) (one two : Bool) → from < mid → mid < to → begins b from ≡ false → begins d mid ≡ false → IsWritten a b from mid end (standing_before a from) one → IsWritten b d mid to end (standing_before b mid) two → IsWritten a d from to end (standing_before a from) two × (begins d from ≡ false)
on_further {V} a b d from mid to end one two low high first second ab bd = (
  record {
    here = λ t l m. at_here t l m (cases_lt t mid);
    earlier = λ t l. bd.earlier t (omega arith) ∙ ab.earlier t l;
    later = λ t l m. bd.later t l m ∙ ab.later t (omega arith) m;
    begin_again = bd.begin_again ∙ ap (λ (x : Bool). x || two) (ab.begin_later to high);
    begin_earlier = λ t l. bd.begin_earlier t (omega arith) ∙ ab.begin_earlier t l;
    begin_within = λ t l m. within t l m (cases_order t mid);
    begin_later = λ t l. bd.begin_later t l ∙ ab.begin_later t (omega arith);
    goes_on = λ e. (let g = bd.goes_on e in (g.0, sym (ab.begin_later to high) ∙ g.1, g.2 ∙ ab.later (to - 1) (omega arith) (omega (arith, g.0))));
  },
  bd.begin_earlier from low ∙ first,
)
  where
    before_mid : (m : ℕ) → from < m → m ≡ mid → standing_before b m ≡ standing_before a from
    before_mid zero l e = absurd (omega arith)
    before_mid (suc m) l e = ab.here m (omega arith) (omega (arith, e))

    at_here : (t : ℕ) → from ≤ t → t < to → (t < mid) ⊎ (mid ≤ t) → standing d t None ≡ standing_before a from
    at_here t l m (inl k) = bd.earlier t k ∙ ab.here t l k
    at_here t l m (inr k) = bd.here t k m ∙ before_mid mid low refl

    within : (t : ℕ) → from < t → t < to → (t ≡ mid) ⊎ ((t < mid) ⊎ (mid < t)) → begins d t ≡ false
    within t l m (inl e) = ap (begins d) e ∙ second
    within t l m (inr (inl k)) = bd.begin_earlier t k ∙ ab.begin_within t l k
    within t l m (inr (inr k)) = bd.begin_within t k m
