-- Components that change have other words and other memories.
use Rattle.std.proofs.Common.{◌≡◌, ℕ, zero, suc, ◌-◌, ◌<◌, ◌≤◌, ◌∙◌, ◌⊎◌, inl, inr, sym, ap, subst, refl, arith, Bool, true, false, cond, Option, None, Some, List, length}
use Rattle.std.proofs.lemmas.Bool.{cases_lt}
use Rattle.grid_law.specs.Codec.{Codec}
use Rattle.change_rows.specs.Rows.{Table as Words, words_at}
use Rattle.cell_states.specs.declared.states.memory.Change.{Change}
use Rattle.change_lists.specs.declared.begun.Begun.{Begun}
use Rattle.change_lists.specs.Changes.{Changes, changes_at, list_at, standing, standing_before, held_at as memory_at}
use Rattle.cell_states.specs.Codes.{IsCode}
use Rattle.cell_states.specs.Coded.{states_in, IsCoded}
use Rattle.cell_states.specs.Kept.{AreSameCells, HasOf, AreRepeated}
use Rattle.cell_states.specs.Ready.{value_in, IsReady}
use Rattle.cell_states.specs.Stated.{Stated, state_at, IsAsMany}
use Rattle.cell_states.specs.Filling.{is_awake}
use Rattle.cell_states.proofs.Codes.{code_along}
use Rattle.cell_states.proofs.Coded.{none_past, coded_along, many_along, state_along}

-- what stands before a cycle is what stands at the one before it
pub before_is : {X : Type 0} (begun : List (Begun X)) (t : ℕ) → 0 < t → standing_before begun t ≡ standing begun (t - 1) None
before_is begun zero h = absurd (omega (arith, h))
before_is begun (suc t) h = let e : t ≡ suc t - 1 = omega arith in ap (λ n. standing begun n None) e

-- what stands where a list of changes is the same
pub memory_same : {X : Type 0} (memories memories1 : List (Changes X)) (c t : ℕ) → list_at memories1 c ≡ list_at memories c → memory_at memories1 c t ≡ memory_at memories c t
memory_same memories memories1 c t e = ap (λ begun. standing begun t None) e

module _ {State Memory : Type 0} (C : Codec State Memory) (words words1 : Words) (memories memories1 : List (Changes Memory)) (coded : IsCoded C words memories) (cells : AreSameCells words words1) where
  pub code_of : (t c u d : ℕ) → HasOf words words1 memories memories1 t c u d → IsCode C (words_at words1.rows t c) (memory_at memories1 c t)
  code_of t c u d h = code_along C _ _ _ _ h.0 h.1 (coded.codes u d)

  pub state_from : (t c u d : ℕ) → HasOf words words1 memories memories1 t c u d → state_at (states_in C words1 memories1) t c ≡ state_at (states_in C words memories) u d
  state_from t c u d h = state_along C words words1 memories memories1 coded cells t c u d h.0 (λ l. h.1)

  -- where it has what it had, also past the cycles
  pub state_kept : (t c : ℕ) → (t < length words.rows → HasOf words words1 memories memories1 t c t c) → state_at (states_in C words1 memories1) t c ≡ state_at (states_in C words memories) t c
  state_kept t c h = by_cycle (cases_lt t (length words.rows))
    where
      by_cycle : (t < length words.rows) ⊎ (length words.rows ≤ t) → state_at (states_in C words1 memories1) t c ≡ state_at (states_in C words memories) t c
      by_cycle (inl k) = state_from t c t c (h k)
      by_cycle (inr k) = state_along C words words1 memories memories1 coded cells t c t c (none_past words1 t c (omega (arith, k, cells.cycles)) ∙ sym (none_past words t c k)) (λ l. absurd (omega (arith, k, l)))

-- the components that change have from one cycle on to before another what they had before them
module _ {State Memory : Type 0} (C : Codec State Memory) (words words1 : Words) (memories memories1 : List (Changes Memory)) (coded : IsCoded C words memories) (changes : List Bool) (from to : ℕ) (r : AreRepeated words words1 memories memories1 changes from to) where
  pub coded_repeated : IsCoded C words1 memories1
  coded_repeated = coded_along C words words1 memories memories1 coded r.cells r.many (λ t c h k. by_place t c h (is_awake changes c) refl (cases_lt t from) (cases_lt t to))
    where
      along : (t c u d : ℕ) → HasOf words words1 memories memories1 t c u d → IsCode C (words_at words1.rows t c) (memory_at memories1 c t)
      along = code_of C words words1 memories memories1 coded r.cells

      by_place : (t c : ℕ) → t < length words.rows → (b : Bool) → is_awake changes c ≡ b → (t < from) ⊎ (from ≤ t) → (t < to) ⊎ (to ≤ t) → IsCode C (words_at words1.rows t c) (memory_at memories1 c t)
      by_place t c h false e l m = along t c t c (r.others t c e)
      by_place t c h true e (inl l) m = along t c t c (r.earlier t c l)
      by_place t c h true e (inr l) (inl m) = along t c (from - 1) c (r.repeated t c e l m)
      by_place t c h true e (inr l) (inr m) = along t c t c (r.behind t c m h)

  -- and so the states
  module _ (s : Stated State) (seen : states_in C words memories ≡ s) where
    pub many_repeated : IsAsMany s (states_in C words1 memories1)
    many_repeated = subst (λ v. IsAsMany v (states_in C words1 memories1)) seen (many_along C words words1 memories memories1 coded r.cells)

    pub state_repeated : (t c : ℕ) → from ≤ t → t < to → state_at (states_in C words1 memories1) t c ≡ state_at s (cond (is_awake changes c) (from - 1) t) c
    state_repeated t c h k = by_change (is_awake changes c) refl ∙ ap (λ v. state_at v (cond (is_awake changes c) (from - 1) t) c) seen
      where
        by_change : (b : Bool) → is_awake changes c ≡ b → state_at (states_in C words1 memories1) t c ≡ state_at (states_in C words memories) (cond b (from - 1) t) c
        by_change true e = state_from C words words1 memories memories1 coded r.cells t c (from - 1) c (r.repeated t c e h k)
        by_change false e = state_from C words words1 memories memories1 coded r.cells t c t c (r.others t c e)

    pub earlier_kept : (t c : ℕ) → t < from → state_at (states_in C words1 memories1) t c ≡ state_at s t c
    earlier_kept t c h = state_kept C words words1 memories memories1 coded r.cells t c (λ l. r.earlier t c h) ∙ ap (λ v. state_at v t c) seen

    pub later_kept : (t c : ℕ) → to ≤ t → state_at (states_in C words1 memories1) t c ≡ state_at s t c
    later_kept t c h = state_kept C words words1 memories memories1 coded r.cells t c (λ l. r.behind t c h l) ∙ ap (λ v. state_at v t c) seen

-- what is ready for a component is so where its list is the same
pub ready_along : {X : Type 0} (memories memories1 : List (Changes X)) (c t : ℕ) (change change1 : Option (Change X)) → changes_at memories1 c ≡ changes_at memories c → change1 ≡ change → IsReady memories c t change → IsReady memories1 c t change1
ready_along {X} memories memories1 c t change change1 e f ready = subst (IsReady memories1 c t) (sym f) (by_change change ready)
  where
    by_change : (o : Option (Change X)) → IsReady memories c t o → IsReady memories1 c t o
    by_change None r = tt
    by_change (Some x) r = (r.0 ∙ sym (ap (λ (k : Changes X). standing k.begun t None) e), subst (λ (k : Changes X). 2 ≤ k.room) (sym e) r.1)

pub value_along : {X : Type 0} (memories memories1 : List (Changes X)) (c t : ℕ) (change change1 : Option (Change X)) → changes_at memories1 c ≡ changes_at memories c → change1 ≡ change → value_in memories1 c t change1 ≡ value_in memories c t change
value_along {X} memories memories1 c t change change1 e f = ap (value_in memories1 c t) f ∙ by_change change
  where
    by_change : (o : Option (Change X)) → value_in memories1 c t o ≡ value_in memories c t o
    by_change None = ap (λ (k : Changes X). standing_before k.begun t) e
    by_change (Some x) = refl
