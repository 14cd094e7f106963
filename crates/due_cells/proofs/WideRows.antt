-- Cycles that are settled by a row of all components: what a row holds, and what is known of its steps.
use Rattle.std.proofs.Common.{◌≡◌, ℕ, ◌+◌, ◌-◌, ◌<◌, ◌≤◌, ◌∙◌, sym, ap, subst, refl, arith, Bool, true, false, ◌⊎◌, inl, inr, List, [], ◌∷◌, Option, None, Some, IfSome, MatchOption, map}
use Rattle.std.specs.List.{AllByRecursion}
use Rattle.std.proofs.lemmas.Bool.{cases_lt}
use Rattle.std.proofs.lemmas.List.Elements.{recursion_from_All}
use Rattle.grid_law.specs.Rules.{Rules, Laws}
use Rattle.grid_law.specs.Codec.{Codec, CodecLaws, IsTold}
use Rattle.grid_law.specs.Run.{run}
use Rattle.cell_states.proofs.Stepped.{run_steps}
use Rattle.due_cells.specs.WholeRows.{HoldsRow, IsKnown}

some_same : {X : Type 0} (x y : X) → Some x ≡ Some y → x ≡ y
some_same x y e = cc

map_same : {X : Type 0} (f g : ℕ → X) (n : ℕ) → ((k : ℕ) → k < n → f k ≡ g k) → (ks : List ℕ) → AllByRecursion (λ k. k < n) ks → map f ks ≡ map g ks
map_same f g n same [] all = refl
map_same f g n same (k ∷ ks) all = ap (λ x. x ∷ map f ks) (same k all.0) ∙ ap (λ xs. g k ∷ xs) (map_same f g n same ks all.1)

module _ {State Memory : Type 0} (C : Codec State Memory) where
  -- a state without a memory is told by its words
  pub told_alone : CodecLaws C → (x y : State) → IsTold C x → IsTold C y → C.words y ≡ C.words x → C.memory x ≡ None → y ≡ x
  told_alone laws x y told_x told_y words none =
      let here : C.state (C.words x) None ≡ x = ap (C.state (C.words x)) (sym none) ∙ told_x in
      sym told_y ∙ ap (λ ws. C.state ws (C.memory y)) words ∙ sym (laws.alone (C.words x) None (C.memory y) (ap C.memory here ∙ none)) ∙ here

module _ {State Slots Slot : Type 0} (R : Rules State Slots Slot) (s : Slots) where
  -- what is so of all components before one, and of it, is so of all up to it
  pub one_more : (P : ℕ → Type 0) (n : ℕ) → ((d : ℕ) → d < n → P d) → P n → (d : ℕ) → d < n + 1 → P d
  one_more P n before here d h = by_place (cases_lt d n)
    where
      by_place : (d < n) ⊎ (n ≤ d) → P d
      by_place (inl p) = before d p
      by_place (inr p) = let e : n ≡ d = omega (arith, h, p) in subst P e here

module _ {State Slots Slot : Type 0} (R : Rules State Slots Slot) (laws : Laws R) {Whole : Type 0} (stands : Whole → Slots → Type 0) (state : Whole → ℕ → State) (s : Slots) (t : ℕ) (later : 0 < t) (old new : Whole) (row : HoldsRow R stands state s old (t - 1)) where
  -- a row that holds the run of a cycle holds that of the next one after its step
  pub row_steps : stands new s → ((c : ℕ) → c < R.components s → state new c ≡ R.step s (map (state old) (R.near s c)) c) → HoldsRow R stands state s new t
  row_steps stands_so steps = record {
    stands_so = stands_so;
    states = λ c h. steps c h
        ∙ ap (λ xs. R.step s xs c) (map_same (state old) (run R s (t - 1)) (R.components s) row.states (R.near s c) (recursion_from_All (λ k. k < R.components s) (R.near s c) (laws.near_within s c h)))
        ∙ run_steps R s t c later;
  }

  -- and what is known of the step is known of the run
  pub row_known : {Memory : Type 0} (C : Codec State Memory) (is_still has_written : ℕ → Bool) → HoldsRow R stands state s new t
      → ((c : ℕ) → c < R.components s → is_still c ≡ true → state new c ≡ state old c) → ((c : ℕ) → c < R.components s → has_written c ≡ false → C.memory (state new c) ≡ C.memory (state old c))
      → IsKnown R C is_still has_written s t
  row_known C is_still has_written next still kept = record {
    still = λ c h e. sym (next.states c h) ∙ still c h e ∙ row.states c h;
    kept = λ c h e. ap C.memory (sym (next.states c h)) ∙ kept c h e ∙ ap C.memory (row.states c h);
  }

-- what is so of a row that is there is so of it at the cycle to which it was brought
pub row_there : {A : Type 0} (P : A → Type 0) (At : A → Type 0) (Q : ℕ → Type 0) (o : Option A) (a : A) (n t : ℕ) → o ≡ Some a → IfSome o P → MatchOption o ⊥ At → (P a → Q n) → (At a → n ≡ t) → Q t
row_there P At Q None a n t e holds there f k = absurd there
row_there P At Q (Some b) a n t e holds there f k = let same = some_same b a e in subst Q (k (subst At same there)) (f (subst P same holds))

-- what two clauses say of an answer that is there
pub some_with : {A : Type 0} (o : Option A) (P Q T : A → Type 0) → ((x : A) → P x → Q x → T x) → IfSome o P → IfSome o Q → IfSome o T
some_with None P Q T f p q = tt
some_with (Some x) P Q T f p q = f x p q
