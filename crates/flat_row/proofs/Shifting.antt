-- The places of a queue: its messages are the first of them.
use Rattle.std.proofs.Common.{◌≡◌, ℕ, zero, suc, ◌+◌, ◌<◌, ◌≤◌, List, [], ◌∷◌, length, take, get_or, set, length-take-le, sym, ap, refl, arith, inl, inr}
use Rattle.std.specs.List.{remove}
use Rattle.std.proofs.lemmas.Bool.{cases_lt}
use Rattle.std.proofs.lemmas.List.{ext_get_or, get_or-take}
use Rattle.std.proofs.lemmas.List.Edits.{get_or-remove_below, get_or-remove_above, length-remove}

module _ {T : Type 0} where
  -- a message's place is one of them
  pub within_take : (n : ℕ) (xs : List T) (i : ℕ) → i < length (take n xs) → i < length xs
  within_take zero xs i within = absurd (omega (arith, within))
  within_take (suc n) [] i within = absurd (omega (arith, within))
  within_take (suc n) (x ∷ xs) zero within = omega arith
  within_take (suc n) (x ∷ xs) (suc i) within = let h = within_take n xs i (omega (arith, within)) in omega (arith, h)

  -- a message that is set there is set among the messages
  pub set_in_take : (n : ℕ) (xs : List T) (i : ℕ) (x : T) → take n (set xs i x) ≡ set (take n xs) i x
  set_in_take zero xs i x = refl
  set_in_take (suc n) [] i x = refl
  set_in_take (suc n) (y ∷ xs) zero x = refl
  set_in_take (suc n) (y ∷ xs) (suc i) x = ap (λ rest. y ∷ rest) (set_in_take n xs i x)

  -- what is behind a place has moved down by one, as far as place i
  pub record MovedDown (old new : List T) (from i : ℕ) : Type 0 where
    pub same_length : length new ≡ length old
    pub below : (d : T) (k : ℕ) → k < from → get_or new k d ≡ get_or old k d
    pub moved : (d : T) (k : ℕ) → from ≤ k → k < i → get_or new k d ≡ get_or old (k + 1) d
    pub above : (d : T) (k : ℕ) → from ≤ k → i ≤ k → get_or new k d ≡ get_or old k d

  module _ (x : T) (xs new : List T) (from last i : ℕ) (order : from ≤ last) (there : last < length (x ∷ xs)) (reach : last ≤ i) (m : MovedDown (x ∷ xs) new from i) where
    long : length (take (last + 1) (x ∷ xs)) ≡ last + 1
    long = length-take-le (last + 1) (x ∷ xs) (omega (arith, there))

    point : (k : ℕ) → k < last → get_or (take last new) k x ≡ get_or (remove (take (last + 1) (x ∷ xs)) from) k x
    point k under = elim (cases_lt k from) [
      | inl below ↦ rw (get_or-take last new k x under, m.below x k below, get_or-remove_below (take (last + 1) (x ∷ xs)) from x k below (rw long (omega (arith, order)))) (sym (get_or-take (last + 1) (x ∷ xs) k x (omega (arith, under))))
      | inr behind ↦ rw (get_or-take last new k x under, m.moved x k behind (omega (arith, under, reach)), get_or-remove_above (take (last + 1) (x ∷ xs)) from x k behind (rw long (omega (arith, order)))) (sym (get_or-take (last + 1) (x ∷ xs) (k + 1) x (omega (arith, under))))
    ]

    pub moved_some : take last new ≡ remove (take (last + 1) (x ∷ xs)) from
    moved_some =
        let one : length (take last new) ≡ last = length-take-le last new (rw m.same_length (omega (arith, there))) in
        let removed = length-remove (take (last + 1) (x ∷ xs)) from (rw long (omega (arith, order))) in
        let two : length (remove (take (last + 1) (x ∷ xs)) from) ≡ last = omega (arith, removed, long) in
        ext_get_or x (take last new) (remove (take (last + 1) (x ∷ xs)) from) (rw (one, two) refl) (λ k under. point k (omega (arith, under, one)))

  -- so one is taken out of the first places
  pub moved_down : (old new : List T) (from last i : ℕ) → from ≤ last → last < length old → last ≤ i → MovedDown old new from i → take last new ≡ remove (take (last + 1) old) from
  moved_down [] new from last i order there reach m = absurd (omega (arith, there))
  moved_down (x ∷ xs) new from last i order there reach m = moved_some x xs new from last i order there reach m
