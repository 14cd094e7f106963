-- The states of some components in a row.
use Rattle.std.proofs.Common.{◌≡◌, ℕ, zero, suc, ◌∙◌, ap, refl, arith, get_or, map, take, subst, ◌≤◌, Bool, true, false, Option, None, Some, List, [], ◌∷◌, length, ◌||◌, eqb}
use Rattle.std.specs.List.{AllByRecursion}
use Rattle.std.proofs.lemmas.Bool.{true≢false, eqb-false}
use Rattle.due_cells.specs.Seen.{Held, held_in}
use Rattle.due_cells.specs.Inputs.{with_state, states_of}
use Rattle.cell_states.specs.Near.{has}

module _ {State : Type 0} where
  -- what with_state was made of
  pub record Parts (o : Option State) (r : Option (List State)) (xs : List State) : Type 0 where
    pub first : State
    pub others : List State
    pub first_is : o ≡ Some first
    pub others_are : r ≡ Some others
    pub whole : xs ≡ first ∷ others

  pub parts_of : (o : Option State) (r : Option (List State)) (xs : List State) → with_state o r ≡ Some xs → Parts o r xs
  parts_of None r xs h = cc
  parts_of (Some x) None xs h = cc
  parts_of (Some x) (Some ys) xs h = record { first = x; others = ys; first_is = refl; others_are = refl; whole = cc }

  -- there is one state for each component
  pub length_states_of : (row : List (Held State)) (ms : List ℕ) (xs : List State) → states_of row ms ≡ Some xs → length xs ≡ length ms
  length_states_of row [] xs h = let e : xs ≡ [] = cc in ap length e
  length_states_of row (m ∷ ms) xs h =
      let p = parts_of (held_in row m).state (states_of row ms) xs h in
      ap length p.whole ∙ ap suc (length_states_of row ms p.others p.others_are)

  -- the first five of at most five
  pub first_five : (xs : List State) (n : ℕ) (d : State) → length xs ≡ n → n ≤ 5 → take n (get_or xs 0 d ∷ get_or xs 1 d ∷ get_or xs 2 d ∷ get_or xs 3 d ∷ get_or xs 4 d ∷ []) ≡ xs
  first_five [] n d e h = subst (λ k. take k (d ∷ d ∷ d ∷ d ∷ d ∷ []) ≡ []) e refl
  first_five (a ∷ []) n d e h = subst (λ k. take k (a ∷ d ∷ d ∷ d ∷ d ∷ []) ≡ a ∷ []) e refl
  first_five (a ∷ b ∷ []) n d e h = subst (λ k. take k (a ∷ b ∷ d ∷ d ∷ d ∷ []) ≡ a ∷ b ∷ []) e refl
  first_five (a ∷ b ∷ c ∷ []) n d e h = subst (λ k. take k (a ∷ b ∷ c ∷ d ∷ d ∷ []) ≡ a ∷ b ∷ c ∷ []) e refl
  first_five (a ∷ b ∷ c ∷ f ∷ []) n d e h = subst (λ k. take k (a ∷ b ∷ c ∷ f ∷ d ∷ []) ≡ a ∷ b ∷ c ∷ f ∷ []) e refl
  first_five (a ∷ b ∷ c ∷ f ∷ g ∷ []) n d e h = subst (λ k. take k (a ∷ b ∷ c ∷ f ∷ g ∷ []) ≡ a ∷ b ∷ c ∷ f ∷ g ∷ []) e refl
  first_five (a ∷ b ∷ c ∷ f ∷ g ∷ x ∷ xs) n d e h = absurd (omega (arith, e))

  -- rows with the same states for these components
  pub states_same : (row other : List (Held State)) (ms : List ℕ) → AllByRecursion (λ m. (held_in row m).state ≡ (held_in other m).state) ms → states_of row ms ≡ states_of other ms
  states_same row other [] h = refl
  states_same row other (m ∷ ms) h = rw (h.0, states_same row other ms h.1) refl

pub first_of : {A B : Type 0} (f : A → B) (n : ℕ) (xs : List A) → map f (take n xs) ≡ take n (map f xs)
first_of f zero [] = refl
first_of f zero (x ∷ xs) = refl
first_of f (suc n) [] = refl
first_of f (suc n) (x ∷ xs) = ap (λ ys. f x ∷ ys) (first_of f n xs)

pub neither : (x y : Bool) → (x || y) ≡ false → (x ≡ false) × (y ≡ false)
neither true y h = absurd (true≢false h)
neither false y h = (refl, h)

-- a number that a list lacks is none of its items
pub none_has : (ms : List ℕ) (c : ℕ) → has ms c ≡ false → AllByRecursion (λ m. m ≡ c → ⊥) ms
none_has [] c h = tt
none_has (m ∷ ms) c h =
    let parts = neither (eqb m c) (has ms c) h in
    (eqb-false m c parts.0, none_has ms c parts.1)
