-- What begins before a place, and from it on.
use Rattle.std.proofs.Common.{◌≡◌, ℕ, zero, suc, ◌+◌, ◌-◌, ◌<◌, ◌≤◌, ◌∙◌, ◌⊎◌, inl, inr, sym, ap, subst, refl, arith, Bool, true, false, cond, eqb, ◌||◌, None, List, [], ◌∷◌, ◌++◌, length, take, drop, get_or}
use Rattle.std.proofs.lemmas.Bool.{cases_lt, le-leb, eqb-true, eq-eqb, false≢true, or_left, or_right}
use Rattle.std.proofs.lemmas.List.{get_or_default, drop_more, drop_all, take_more, take-append-drop, append-nil, set_split}
use Rattle.std.proofs.Math.ListN.{set}
use Rattle.change_lists.specs.declared.begun.Begun.{Begun}
use Rattle.change_lists.specs.Changes.{standing, standing_before, begins, starts, first_or, Rises, IsPlace}
use Rattle.change_lists.proofs.Standing.{rises_append, rises_to, standing_append, standing_begun, standing_late, begins_append, begins_early, begins_first, begins_late, rises_later}

module _ {V : Type 0} where
  from_low : (low high : ℕ) (xs : List (Begun V)) (k : ℕ) (d : Begun V) → Rises low xs high → k < length xs → low ≤ (get_or xs k d).from
  from_low low high [] k d h l = absurd (omega arith)
  from_low low high (b ∷ rest) zero d h l = h.0
  from_low low high (b ∷ rest) (suc k) d h l = omega (arith, h.0, from_low (b.from + 1) high rest k d h.1 (omega arith))

  pub rises_at : (low high : ℕ) (xs : List (Begun V)) (j k : ℕ) (d : Begun V) → Rises low xs high → j < k → k < length xs → (get_or xs j d).from < (get_or xs k d).from
  rises_at low high [] j k d h l m = absurd (omega arith)
  rises_at low high (b ∷ rest) j zero d h l m = absurd (omega arith)
  rises_at low high (b ∷ rest) zero (suc k) d h l m = omega (arith, from_low (b.from + 1) high rest k d h.1 (omega arith))
  rises_at low high (b ∷ rest) (suc j) (suc k) d h l m = rises_at (b.from + 1) high rest j k d h.1 (omega arith) (omega arith)

  same_from : (xs : List (Begun V)) (i : ℕ) (x d : Begun V) → i < length xs → x ≡ get_or xs i x → (get_or xs i d).from ≡ x.from
  same_from xs i x d l e = ap (λ (b : Begun V). b.from) (get_or_default xs i d x l ∙ sym e)

  -- one is found to begin before a cycle, and so do those before it
  pub before_more : (high t i : ℕ) (xs : List (Begun V)) (x : Begun V) → Rises 0 xs high → i < length xs → x ≡ get_or xs i x → x.from < t → (k : ℕ) (d : Begun V) → k < i + 1 → (get_or xs k d).from < t
  before_more high t i xs x h l e m k d n = by_place (cases_lt k i)
    where
      by_place : (k < i) ⊎ (i ≤ k) → (get_or xs k d).from < t
      by_place (inl q) = omega (arith, rises_at 0 high xs k i d h q l, same_from xs i x d l e)
      by_place (inr q) = let s : k ≡ i = omega arith in subst (λ (j : ℕ). (get_or xs j d).from < t) (sym s) (omega (arith, same_from xs i x d l e))

  -- one is found to begin at a cycle or later, and so do those behind it
  pub behind_more : (high t i : ℕ) (xs : List (Begun V)) (x : Begun V) → Rises 0 xs high → i < length xs → x ≡ get_or xs i x → t ≤ x.from → (k : ℕ) (d : Begun V) → i ≤ k → k < length xs → t ≤ (get_or xs k d).from
  behind_more high t i xs x h l e m k d n w = by_place (cases_lt i k)
    where
      by_place : (i < k) ⊎ (k ≤ i) → t ≤ (get_or xs k d).from
      by_place (inl q) = omega (arith, rises_at 0 high xs i k d h q w, same_from xs i x d l e)
      by_place (inr q) = let s : k ≡ i = omega arith in subst (λ (j : ℕ). t ≤ (get_or xs j d).from) (sym s) (omega (arith, same_from xs i x d l e))

  pub set_at : (xs : List (Begun V)) (i : ℕ) (x : Begun V) → i < length xs → set xs i x ≡ take i xs ++ x ∷ drop (i + 1) xs
  set_at xs i x l = set_split xs i x l ∙ (let e : suc i ≡ i + 1 = omega arith in ap (λ m. take i xs ++ x ∷ drop m xs) e)

  pub split_low : (low high t n : ℕ) (xs : List (Begun V)) → Rises low xs high → low ≤ t → IsPlace xs t n → Rises low (take n xs) t
  split_low low high t zero xs h l p = l
  split_low low high t (suc n) [] h l p = absurd (omega (arith, p.within))
  split_low low high t (suc n) (b ∷ rest) h l p = (
    h.0,
    split_low (b.from + 1) high t n rest h.1 (omega (arith, p.before 0 b (omega arith))) (record {
      within = omega (arith, p.within);
      before = λ k d m. p.before (suc k) d (omega arith);
      behind = λ k d m w. p.behind (suc k) d (omega arith) (omega arith);
    }),
  )

  pub split_high : (low high t n : ℕ) (xs : List (Begun V)) → Rises low xs high → t ≤ high → IsPlace xs t n → Rises t (drop n xs) high
  split_high low high t zero [] h l p = l
  split_high low high t zero (b ∷ rest) h l p = (p.behind 0 b (omega arith) (omega arith), h.1)
  split_high low high t (suc n) [] h l p = l
  split_high low high t (suc n) (b ∷ rest) h l p =
      split_high (b.from + 1) high t n rest h.1 l (record {
        within = omega (arith, p.within);
        before = λ k d m. p.before (suc k) d (omega arith);
        behind = λ k d m w. p.behind (suc k) d (omega arith) (omega arith);
      })

  -- the one at a place is the first of the rest
  pub starts_read : (xs : List (Begun V)) (i t : ℕ) (x : Begun V) → i < length xs → x ≡ get_or xs i x → starts (drop i xs) t ≡ eqb x.from t
  starts_read xs i t x l e = ap (λ ys. starts ys t) (drop_more xs i x l) ∙ ap (λ (b : Begun V). eqb b.from t) (sym e)

  pub starts_none : (xs : List (Begun V)) (i t : ℕ) → length xs ≤ i → starts (drop i xs) t ≡ false
  starts_none xs i t l = ap (λ ys. starts ys t) (drop_all i xs l)

  starts_within : (xs : List (Begun V)) (i t : ℕ) → starts (drop i xs) t ≡ true → i < length xs
  starts_within xs i t s = by_place (cases_lt i (length xs))
    where
      by_place : (i < length xs) ⊎ (length xs ≤ i) → i < length xs
      by_place (inl l) = l
      by_place (inr l) = absurd (false≢true (sym (starts_none xs i t l) ∙ s))

  -- the one that begins at a cycle, and the rest behind it
  pub first_at : (high : ℕ) (xs : List (Begun V)) (i t : ℕ) (d : Begun V) → Rises t (drop i xs) high → starts (drop i xs) t ≡ true → (i < length xs) × (drop i xs ≡ get_or xs i d ∷ drop (i + 1) xs) × ((get_or xs i d).from ≡ t) × Rises (t + 1) (drop (i + 1) xs) high
  first_at high xs i t d h s =
      let l : i < length xs = starts_within xs i t s in
      let q : drop i xs ≡ get_or xs i d ∷ drop (i + 1) xs = drop_more xs i d l in
      let e : (get_or xs i d).from ≡ t = eqb-true (get_or xs i d).from t (ap (λ ys. starts ys t) (sym q) ∙ s) in
      let r : Rises t (get_or xs i d ∷ drop (i + 1) xs) high = subst (λ ys. Rises t ys high) q h in
      (l, q, e, subst (λ (u : ℕ). Rises (u + 1) (drop (i + 1) xs) high) e r.1)

  -- what begins at a cycle is found at its place
  pub begins_at_place : (high t n : ℕ) (xs : List (Begun V)) → Rises 0 xs high → t < high → IsPlace xs t n → begins xs t ≡ starts (drop n xs) t
  begins_at_place high t n xs h l p =
      ap (λ ys. begins ys t) (sym (take-append-drop n xs))
      ∙ begins_append (take n xs) (drop n xs) t
      ∙ ap (λ (b : Bool). b || begins (drop n xs) t) (begins_early 0 t t (take n xs) (split_low 0 high t n xs h (omega arith) p) (omega arith))
      ∙ begins_first high t (drop n xs) (split_high 0 high t n xs h (omega arith) p)

  -- the last of the first n stands, where all of them have begun
  pub last_stands : (t n : ℕ) (xs : List (Begun V)) (x : Begun V) → Rises 0 (take n xs) (t + 1) → 0 < n → n ≤ length xs → x ≡ get_or xs (n - 1) x → standing (take n xs) t None ≡ x.value
  last_stands t n xs x h some l e =
      let s : n - 1 + 1 ≡ n = omega (arith, some) in
      let q : take n xs ≡ take (n - 1) xs ++ x ∷ [] = ap (λ m. take m xs) (sym s) ∙ take_more xs (n - 1) x (omega (arith, some)) ∙ ap (λ b. take (n - 1) xs ++ b ∷ []) (sym e) in
      ap (λ ys. standing ys t None) q
      ∙ standing_append (take (n - 1) xs) (x ∷ []) t None
      ∙ ap (λ (c : Bool). cond c x.value (standing (take (n - 1) xs) t None)) (le-leb x.from t (last_from 0 (take (n - 1) xs) (subst (λ ys. Rises 0 ys (t + 1)) q h)))
    where
      last_from : (low : ℕ) (ys : List (Begun V)) → Rises low (ys ++ x ∷ []) (t + 1) → x.from ≤ t
      last_from low [] r = omega (arith, r.1)
      last_from low (b ∷ ys) r = last_from (b.from + 1) ys r.1

  -- what stands is that of those that begin at the cycle or before
  pub stands_here : (high t n : ℕ) (xs : List (Begun V)) → Rises 0 xs high → t < high → IsPlace xs t n → starts (drop n xs) t ≡ true → (n < length xs) × Rises 0 (take (n + 1) xs) (t + 1) × (standing (take (n + 1) xs) t None ≡ standing xs t None)
  stands_here high t n xs h l p s =
      let d : Begun V = record { from = 0; value = None } in
      let f = first_at high xs n t d (split_high 0 high t n xs h (omega arith) p) s in
      let q : take (n + 1) xs ≡ take n xs ++ get_or xs n d ∷ [] = take_more xs n d f.0 in
      let low : Rises 0 (take n xs) t = split_low 0 high t n xs h (omega arith) p in
      let one : Rises t (get_or xs n d ∷ []) (t + 1) = (omega (arith, f.2), omega (arith, f.2)) in
      let whole : take (n + 1) xs ++ drop (n + 1) xs ≡ xs = take-append-drop (n + 1) xs in (
        f.0,
        subst (λ ys. Rises 0 ys (t + 1)) (sym q) (rises_append 0 t (t + 1) (take n xs) (get_or xs n d ∷ []) low one),
        sym (ap (λ ys. standing ys t None) (sym whole)
            ∙ standing_append (take (n + 1) xs) (drop (n + 1) xs) t None
            ∙ standing_late (t + 1) high t (drop (n + 1) xs) (standing (take (n + 1) xs) t None) f.3 (omega arith)),
      )

  pub stands_before : (high t n : ℕ) (xs : List (Begun V)) → Rises 0 xs high → t < high → IsPlace xs t n → starts (drop n xs) t ≡ false → Rises 0 (take n xs) (t + 1) × (standing (take n xs) t None ≡ standing xs t None)
  stands_before high t n xs h l p s =
      let low : Rises 0 (take n xs) t = split_low 0 high t n xs h (omega arith) p in
      let up : Rises (t + 1) (drop n xs) high = rises_later high t (drop n xs) (split_high 0 high t n xs h (omega arith) p) s l in (
        subst (λ ys. Rises 0 ys (t + 1)) (append_none (take n xs)) (rises_append 0 t (t + 1) (take n xs) [] low (omega arith)),
        sym (ap (λ ys. standing ys t None) (sym (take-append-drop n xs))
            ∙ standing_append (take n xs) (drop n xs) t None
            ∙ standing_late (t + 1) high t (drop n xs) (standing (take n xs) t None) up (omega arith)),
      )
    where
      append_none : (ys : List (Begun V)) → ys ++ [] ≡ ys
      append_none ys = append-nil ys

  -- what stands before a cycle is that of those that begin before it
  pub stood_before : (high t n : ℕ) (xs : List (Begun V)) → Rises 0 xs high → t < high → IsPlace xs t n → Rises 0 (take n xs) (t + 1) × (standing (take n xs) t None ≡ standing_before xs t)
  stood_before high zero zero xs h l p = (omega arith, refl)
  stood_before high zero (suc n) [] h l p = absurd (omega (arith, p.within))
  stood_before high zero (suc n) (b ∷ rest) h l p = absurd (omega (arith, p.before 0 b (omega arith)))
  stood_before high (suc u) n xs h l p =
      let low : Rises 0 (take n xs) (suc u) = split_low 0 high (suc u) n xs h (omega arith) p in
      let up : Rises (suc u) (drop n xs) high = split_high 0 high (suc u) n xs h (omega arith) p in (
        rises_to 0 (suc u) (suc u + 1) (take n xs) (omega arith) low,
        standing_begun 0 (suc u) (suc u) u (take n xs) None low (omega arith) (omega arith)
            ∙ sym (ap (λ ys. standing ys u None) (sym (take-append-drop n xs))
            ∙ standing_append (take n xs) (drop n xs) u None
            ∙ standing_late (suc u) high u (drop n xs) (standing (take n xs) u None) up (omega arith)),
      )

  -- the next one that begins, if it does before `to`
  pub next_from : (high t to n : ℕ) (xs : List (Begun V)) → Rises 0 xs high → t < high → IsPlace xs t n → t ≤ to → t ≤ first_or (drop n xs) to
  next_from high t to n xs h l p k = first_low high (drop n xs) (split_high 0 high t n xs h (omega arith) p)
    where
      first_low : (top : ℕ) (ys : List (Begun V)) → Rises t ys top → t ≤ first_or ys to
      first_low top [] r = k
      first_low top (b ∷ ys) r = omega (arith, r.0)

  pub next_within : (xs : List (Begun V)) (to : ℕ) → first_or xs to ≤ to
  next_within [] to = omega arith
  next_within (b ∷ xs) to = omega arith

  pub next_none : (high t to n : ℕ) (xs : List (Begun V)) → Rises 0 xs high → t < high → IsPlace xs t n → (u : ℕ) → t ≤ u → u < first_or (drop n xs) to → begins xs u ≡ false
  next_none high t to n xs h l p u k m =
      ap (λ ys. begins ys u) (sym (take-append-drop n xs))
      ∙ begins_append (take n xs) (drop n xs) u
      ∙ ap (λ (b : Bool). b || begins (drop n xs) u) (begins_early 0 t u (take n xs) (split_low 0 high t n xs h (omega arith) p) k)
      ∙ first_none (drop n xs) (split_high 0 high t n xs h (omega arith) p) m
    where
      first_none : (ys : List (Begun V)) → Rises t ys high → u < first_or ys to → begins ys u ≡ false
      first_none [] r w = refl
      first_none (b ∷ ys) r w = begins_late b.from high u (b ∷ ys) (omega arith, r.1) (omega (arith, w))

  pub next_there : (high t to n : ℕ) (xs : List (Begun V)) → first_or (drop n xs) to < to → begins xs (first_or (drop n xs) to) ≡ true
  next_there high t to n xs w =
      ap (λ ys. begins ys (first_or (drop n xs) to)) (sym (take-append-drop n xs))
      ∙ begins_append (take n xs) (drop n xs) (first_or (drop n xs) to)
      ∙ or_right (begins (take n xs) (first_or (drop n xs) to)) (begins (drop n xs) (first_or (drop n xs) to)) (first_begins (drop n xs) w)
    where
      first_begins : (ys : List (Begun V)) → first_or ys to < to → begins ys (first_or ys to) ≡ true
      first_begins [] q = absurd (omega arith)
      first_begins (b ∷ ys) q = or_left (eqb b.from (first_or (b ∷ ys) to)) (begins ys (first_or (b ∷ ys) to)) (eq-eqb b.from (first_or (b ∷ ys) to) (omega (arith, q)))
