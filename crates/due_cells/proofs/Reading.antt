-- The lists of readers.
use Rattle.std.proofs.Common.{◌≡◌, ℕ, ◌+◌, ◌<◌, ◌∙◌, sym, ap, subst, refl, arith, Bool, true, false, ◌||◌, eqb, ◌⊎◌, inl, inr, List, [], ◌∷◌, ◌++◌, length, get_or, take, All}
use Rattle.std.proofs.Math.Bool.{or-false}
use Rattle.std.proofs.Math.ListN.{set}
use Rattle.std.proofs.lemmas.Bool.{cases_eq, eq-eqb, ne_eqb}
use Rattle.std.proofs.lemmas.List.{length-set, get_or-set_same, get_or-set_other}
use Rattle.std.proofs.lemmas.List.Elements.{All-append}
use Rattle.std.proofs.lemmas.List.Folds.{list_any-append, list_any_more}
use Rattle.grid_law.specs.Rules.{Rules, Laws}
use Rattle.cell_states.specs.Near.{has, AreNear}
use Rattle.due_cells.specs.Readers.{readers_at, IsIndex}

or_true : (b : Bool) → (b || true) ≡ true
or_true true = refl
or_true false = refl

-- one more number in a list
has_more : (ms : List ℕ) (k c : ℕ) → has (ms ++ k ∷ []) c ≡ (has ms c || (eqb k c || false))
has_more ms k c = list_any-append (λ m. eqb m c) ms (k ∷ [])

has_last : (ms : List ℕ) (k : ℕ) → has (ms ++ k ∷ []) k ≡ true
has_last ms k = has_more ms k k ∙ ap (λ b. has ms k || (b || false)) (eq-eqb k k refl) ∙ or_true (has ms k)

has_other : (ms : List ℕ) (k c : ℕ) → (c ≡ k → ⊥) → has (ms ++ k ∷ []) c ≡ has ms c
has_other ms k c f = has_more ms k c ∙ ap (λ b. has ms c || (b || false)) (ne_eqb k c (λ e. f (sym e))) ∙ or-false (has ms c)

all_last : (P : ℕ → Type 0) (k : ℕ) → P k → All P (k ∷ [])
all_last P k p = grind (arith, p)

-- what has been done to the lists for the near components that were passed
pub record IsAdded (olds lists : List (List ℕ)) (passed : List ℕ) (k : ℕ) : Type 0 where
  pub len : length lists ≡ length olds
  pub others : (c j : ℕ) → (j ≡ k → ⊥) → has (readers_at lists c) j ≡ has (readers_at olds c) j
  pub own : (c : ℕ) → has (readers_at olds c) k ≡ false → has (readers_at lists c) k ≡ has passed c
  pub within : (n : ℕ) → k < n → (c : ℕ) → All (λ j. j < n) (readers_at olds c) → All (λ j. j < n) (readers_at lists c)

module _ (olds lists : List (List ℕ)) (near : List ℕ) (i k : ℕ) (h : i < length near) (inside : get_or near i 0 < length olds) (added : IsAdded olds lists (take i near) k) where
  abbrev news : List (List ℕ)
  news = set lists (get_or near i 0) (readers_at lists (get_or near i 0) ++ k ∷ [])

  at_same : readers_at news (get_or near i 0) ≡ readers_at lists (get_or near i 0) ++ k ∷ []
  at_same = get_or-set_same lists (get_or near i 0) _ [] (omega (arith, added.len))

  at_other : (c : ℕ) → (c ≡ get_or near i 0 → ⊥) → readers_at news c ≡ readers_at lists c
  at_other c f = get_or-set_other lists (get_or near i 0) c _ [] f

  passes : (c : ℕ) → has (take (i + 1) near) c ≡ (has (take i near) c || eqb (get_or near i 0) c)
  passes c = list_any_more (λ m. eqb m c) near i 0 h

  pub add_more : IsAdded olds (set lists (get_or near i 0) (readers_at lists (get_or near i 0) ++ k ∷ [])) (take (i + 1) near) k
  add_more = record {
    len = length-set lists (get_or near i 0) _ ∙ added.len;
    others = λ c j f. others c j f (cases_eq c (get_or near i 0));
    own = λ c e. own c e (cases_eq c (get_or near i 0));
    within = λ n l c all. within n l c all (cases_eq c (get_or near i 0));
  }
    where
      others : (c j : ℕ) → (j ≡ k → ⊥) → (c ≡ get_or near i 0) ⊎ (c ≡ get_or near i 0 → ⊥) → has (readers_at news c) j ≡ has (readers_at olds c) j
      others c j f (inl e) = ap (λ m. has (readers_at news m) j) e ∙ ap (λ ms. has ms j) at_same ∙ has_other (readers_at lists (get_or near i 0)) k j f ∙ ap (λ m. has (readers_at lists m) j) (sym e) ∙ added.others c j f
      others c j f (inr g) = ap (λ ms. has ms j) (at_other c g) ∙ added.others c j f

      own : (c : ℕ) → has (readers_at olds c) k ≡ false → (c ≡ get_or near i 0) ⊎ (c ≡ get_or near i 0 → ⊥) → has (readers_at news c) k ≡ has (take (i + 1) near) c
      own c e (inl f) =
          ap (λ m. has (readers_at news m) k) f ∙ ap (λ ms. has ms k) at_same ∙ has_last (readers_at lists (get_or near i 0)) k ∙ sym (passes c ∙ ap (λ b. has (take i near) c || b) (eq-eqb (get_or near i 0) c (sym f)) ∙ or_true (has (take i near) c))
      own c e (inr g) =
          ap (λ ms. has ms k) (at_other c g) ∙ added.own c e ∙ sym (passes c ∙ ap (λ b. has (take i near) c || b) (ne_eqb (get_or near i 0) c (λ f. g (sym f))) ∙ or-false (has (take i near) c))

      within : (n : ℕ) → k < n → (c : ℕ) → All (λ j. j < n) (readers_at olds c) → (c ≡ get_or near i 0) ⊎ (c ≡ get_or near i 0 → ⊥) → All (λ j. j < n) (readers_at news c)
      within n l c all (inl e) =
          subst (λ m. All (λ j. j < n) (readers_at news m)) (sym e) (subst (λ ms. All (λ j. j < n) ms) (sym at_same) (All-append (λ j. j < n) (readers_at lists (get_or near i 0)) (k ∷ []) (subst (λ m. All (λ j. j < n) (readers_at lists m)) e (added.within n l c all)) (all_last (λ j. j < n) k l)))
      within n l c all (inr g) =
          subst (λ ms. All (λ j. j < n) ms) (sym (at_other c g)) (added.within n l c all)

-- the lists stay those of slots of the same shape
pub near_along : {State Slots Slot : Type 0} (R : Rules State Slots Slot) (laws : Laws R) (s next : Slots) (lists : List (List ℕ)) → R.SameShape s next → AreNear R s lists → AreNear R next lists
near_along R laws s next lists shape near c h =
    let n : R.components s ≡ R.components next = laws.shape_components s next shape in
    near c (omega arith) ∙ laws.shape_near s next c shape

pub index_along : {State Slots Slot : Type 0} (R : Rules State Slots Slot) (laws : Laws R) (s next : Slots) (lists : List (List ℕ)) → R.SameShape s next → IsIndex R s lists → IsIndex R next lists
index_along R laws s next lists shape index =
    let n : R.components s ≡ R.components next = laws.shape_components s next shape in
    record {
      one_each = index.one_each ∙ n;
      readers = λ c k i j. index.readers c k (omega arith) (omega arith) ∙ ap (λ ms. has ms c) (laws.shape_near s next k shape);
      within = λ c i. subst (λ m. All (λ k. k < m) (readers_at lists c)) n (index.within c (omega arith));
    }
