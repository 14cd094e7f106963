-- A cycle that was settled at once: it was passed as one store after another would.
use Rattle.std.proofs.Common.{◌≡◌, ◌↔◌, ℕ, zero, suc, ◌+◌, ◌*◌, ◌^◌, ◌<◌, ◌≤◌, ◌∙◌, sym, ap, subst, refl, arith, Bool, true, false, cond, ◌&&◌, ◌⊎◌, inl, inr, Some, is_some, List, length, All, nat_le, nat_lt}
use Rattle.std.proofs.lemmas.Bool.{cases_lt, cases_eq}
use Rattle.std.proofs.lemmas.Bool.Decides.{nat_tests}
use Rattle.cell_marks.specs.Marked.{count_in}
use Rattle.grid_law.specs.Rules.{Rules, Laws}
use Rattle.grid_law.specs.Run.{run}
use Rattle.cell_states.specs.declared.cell.CellRange.{CellRange}
use Rattle.due_cells.specs.Seen.{Held, Seen, nothing, marked, row_at, held_at, due_in_row}
use Rattle.cell_table.specs.Cells.{IsThere}
use Rattle.due_cells.specs.Layout.{cleared}
use Rattle.cell_states.specs.Near.{has}
use Rattle.due_cells.specs.Readers.{AreHeld}
use Rattle.cell_table.specs.Consistent.{IsTable, IsWhole}
use Rattle.cell_states.specs.Filling.{is_awake}
use Rattle.due_cells.specs.Ranges.{is_marked, IsWithin}
use Rattle.due_cells.specs.Woken.{differing, woken}
use Rattle.cell_table.specs.Passing.{clock_behind, reached, costing, IsPassed, HoldsBut}
use Rattle.cell_table.specs.Settling.{NoneDueBefore, IsAt}
use Rattle.due_cells.specs.WholeRows.{IsRowPut}
use Rattle.cell_table.proofs.Runs.{holds_run_at}
use Rattle.cell_table.proofs.Passing.{passed_at_end, passed_table}
use Rattle.cell_table.proofs.Repeated.{count_whole, differing_count}

module _ {State Slots Slot : Type 0} (R : Rules State Slots Slot) (laws : Laws R) (v : Seen State Slots) (table : IsTable R v.slots v.horizon v.rows) (s : ℕ) (from_there : s ≤ v.horizon) (none : NoneDueBefore R v s 0) (changes : List Bool) (width : length changes ≡ R.components v.slots) (rows1 : List (List (Held State))) (row_put : IsRowPut R v.slots v.rows rows1 s changes) where
  abbrev C : ℕ
  C = R.components v.slots

  abbrev marks : ℕ → ℕ → Bool
  marks t c = is_awake changes c

  due_count : costing R v marks s 0 C ≡ due_in_row (row_at v.rows s)
  due_count =
      count_whole (λ (k : Held State). k.is_due) (row_at v.rows s) nothing (costing R v marks s 0) C (table.whole.components s from_there) refl (λ k h. refl)

  there_at : (c : ℕ) → c < C → IsThere R v s c
  there_at c h = record { cycle = from_there; component = h }

  runs_there : (c : ℕ) → c < C → (held_at v.rows s c).is_due ≡ false → (held_at v.rows s c).state ≡ Some (run R v.slots s c)
  runs_there c h e = holds_run_at R laws v table s c (there_at c h) (λ t1 c1 k l. none t1 c1 k (omega (arith, l), λ p. absurd (omega (arith, l, p)))) e

  -- a component is marked exactly where it doesn't hold the run's state
  pub tells_at : (c : ℕ) → c < C → (is_awake changes c ≡ false) ↔ ((held_at v.rows s c).state ≡ Some (run R v.slots s c))
  tells_at c h = by_due (held_at v.rows s c).is_due refl
    where
      by_due : (b : Bool) → (held_at v.rows s c).is_due ≡ b → (is_awake changes c ≡ false) ↔ ((held_at v.rows s c).state ≡ Some (run R v.slots s c))
      by_due true e = row_put.tells c h e
      by_due false e = (λ _. runs_there c h e, λ _. row_put.unmarked c h e)

  -- and what is put is the run's state
  pub puts_run : (c : ℕ) → c < C → held_at rows1 s c ≡ cleared (Some (run R v.slots s c))
  puts_run c h = row_put.put c h ∙ ap cleared (by_due (held_at v.rows s c).is_due refl)
    where
      by_due : (b : Bool) → (held_at v.rows s c).is_due ≡ b → cond b (Some (run R v.slots s c)) (held_at v.rows s c).state ≡ Some (run R v.slots s c)
      by_due true e = refl
      by_due false e = runs_there c h e

  kept : (t c : ℕ) → (t ≡ s → ⊥) → held_at rows1 t c ≡ held_at v.rows t c
  kept = row_put.others

  tells : (t c : ℕ) → IsThere R v t c → s ≤ t → t < s + 1 → (is_awake changes c ≡ false) ↔ ((held_at v.rows t c).state ≡ Some (run R v.slots t c))
  tells t c there h l =
      let here : s ≡ t = omega (arith, h, l) in
      subst (λ u. (is_awake changes c ≡ false) ↔ ((held_at v.rows u c).state ≡ Some (run R v.slots u c))) here (tells_at c there.component)

  module _ (rows2 : List (List (Held State))) (clock : ℕ) (few : C < 4294967296) (versionless : (t c : ℕ) → (held_at v.rows t c).is_due ≡ false → (held_at v.rows t c).version ≡ 0)
      (is_clock : clock ≡ v.clock + count_in changes) (room : v.clock + 1 * C < 2 ^ 64) (whole : IsWhole R v.slots v.horizon rows2)
      (others : (t c : ℕ) → t ≤ v.horizon → (t ≡ s + 1 → ⊥) → held_at rows2 t c ≡ held_at rows1 t c)
      (behind : s + 1 ≤ v.horizon → (c : ℕ) → c < C → held_at rows2 (s + 1) c ≡ woken R v.slots rows1 marks v.clock s C c) where
    abbrev now : Seen State Slots
    now = record { slots = v.slots; horizon = v.horizon; clock = clock; rows = rows2 }

    -- marks behind the cycle don't hang on what that holds
    woken_same : (n c : ℕ) → woken R v.slots rows1 marks v.clock s n c ≡ woken R v.slots v.rows marks v.clock s n c
    woken_same zero c = kept (s + 1) c (λ e. omega (arith, e))
    woken_same (suc n) c = ap (λ (r : Held State). cond (is_awake changes n && has (R.near v.slots c) n) (marked r (v.clock + (differing marks s n + 1))) r) (woken_same n c)

    woken_state : (n c : ℕ) → (woken R v.slots v.rows marks v.clock s n c).state ≡ (held_at v.rows (s + 1) c).state
    woken_state zero c = refl
    woken_state (suc n) c = by_mark (is_awake changes n && has (R.near v.slots c) n) ∙ woken_state n c
      where
        by_mark : (b : Bool) → (cond b (marked (woken R v.slots v.rows marks v.clock s n c) (v.clock + (differing marks s n + 1))) (woken R v.slots v.rows marks v.clock s n c)).state ≡ (woken R v.slots v.rows marks v.clock s n c).state
        by_mark true = refl
        by_mark false = refl

    at_first : s ≡ s + 0
    at_first = omega arith

    behind_reached : (c : ℕ) → woken R v.slots v.rows marks v.clock s C c ≡ reached R v marks s 1 c
    behind_reached c = ap (λ n. woken R v.slots v.rows marks v.clock n C c) at_first

    clock_one : clock ≡ clock_behind R v marks s 1
    clock_one = is_clock ∙ ap (λ n. v.clock + n) (sym (differing_count changes (s + 0) C width))

    pub is_passed : IsPassed R v marks s now 1
    is_passed = record {
      slots = refl;
      horizon = refl;
      clock = clock_one;
      within = omega (arith, from_there);
      tells = tells;
      before = λ t c there h. others t c there.cycle (λ p. absurd (omega (arith, h, p))) ∙ kept t c (λ p. absurd (omega (arith, h, p)));
      passed = λ t c there h l. (let here : s ≡ t = omega (arith, h, l) in subst (λ u. held_at rows2 u c ≡ cleared (Some (run R v.slots u c))) here (others s c from_there (λ p. absurd (omega (arith, p))) ∙ puts_run c there.component));
      behind = λ t c there p. (let here : s + 1 ≡ t = omega (arith, p) in subst (λ u. held_at rows2 u c ≡ reached R v marks s 1 c) here (behind (omega (arith, there.cycle, here)) c there.component ∙ woken_same C c ∙ behind_reached c));
      later = λ t c there h. others t c there.cycle (λ p. absurd (omega (arith, h, p))) ∙ kept t c (λ p. absurd (omega (arith, h, p)));
    }

    none_more : (x : ℕ) → 0 + x ≡ x
    none_more x = omega arith

    told : (t c : ℕ) → IsThere R v t c → s ≤ t → t < s + 1 → (marks t c ≡ false) ↔ ((held_at v.rows t c).state ≡ Some (run R v.slots t c))
    told = tells

    up_to : s + 1 ≤ s + 1
    up_to = omega arith

    -- a pass that came before the cycle has come behind it
    pub goes_behind : (first : Seen State Slots) (k : ℕ) → IsAt R first v s 0 k → IsAt R first now (s + 1) 0 (k + due_in_row (row_at v.rows s))
    goes_behind first k at =
        subst (λ n. IsAt R first now (s + 1) 0 (k + n)) (none_more (costing R v marks s 0 C) ∙ due_count) (passed_at_end R laws v table few first s k at (s + 1) marks told (λ t c there. versionless t c) 1 now up_to is_passed whole room)

    pub still_table : IsAt R v v s 0 0 → IsTable R v.slots v.horizon rows2
    still_table at = passed_table R laws v table few v s 0 at (s + 1) marks told (λ t c there. versionless t c) 1 now up_to is_passed whole room

    -- the states of all other cycles are as they were
    pub other_states : (t c : ℕ) → IsThere R v t c → (t ≡ s → ⊥) → (held_at rows2 t c).state ≡ (held_at v.rows t c).state
    other_states t c there f = by_place (cases_lt t (s + 1)) (cases_lt (s + 1) t)
      where
        by_place : (t < s + 1) ⊎ (s + 1 ≤ t) → (s + 1 < t) ⊎ (t ≤ s + 1) → (held_at rows2 t c).state ≡ (held_at v.rows t c).state
        by_place (inl h) q = ap (λ (r : Held State). r.state) (others t c there.cycle (λ p. absurd (omega (arith, h, p))) ∙ kept t c f)
        by_place (inr h) (inl q) = ap (λ (r : Held State). r.state) (others t c there.cycle (λ p. absurd (omega (arith, q, p))) ∙ kept t c f)
        by_place (inr h) (inr q) =
            let here : s + 1 ≡ t = omega (arith, h, q) in
            subst (λ u. (held_at rows2 u c).state ≡ (held_at v.rows u c).state) here (ap (λ (r : Held State). r.state) (behind (omega (arith, there.cycle, here)) c there.component ∙ woken_same C c) ∙ woken_state C c)

    -- cells that held a state hold one
    pub held_still : (n : ℕ) → n ≤ v.horizon + 1 → AreHeld R v.slots v.rows n → AreHeld R v.slots rows2 n
    held_still n within held t c h k = by_cycle (cases_eq t s)
      where
        there : IsThere R v t c
        there = record { cycle = omega (arith, h, within); component = k }

        by_cycle : (t ≡ s) ⊎ (t ≡ s → ⊥) → is_some (held_at rows2 t c).state ≡ true
        by_cycle (inl e) = ap (λ (r : Held State). is_some r.state) (is_passed.passed t c there (omega (arith, e)) (omega (arith, e)))
        by_cycle (inr f) = ap is_some (other_states t c there f) ∙ held t c h k

    -- of the cycle itself those of the components that are marked may be others
    pub row_but : (ranges : List CellRange) → All (IsWithin (s + 1) (length changes)) ranges → ((t c : ℕ) → is_marked ranges t c ≡ (is_awake changes c && (nat_le s t && nat_lt t (s + 1)))) → All (IsWithin (v.horizon + 1) C) ranges → HoldsBut R v now ranges
    row_but ranges narrow is_range within = record {
      slots = refl;
      horizon = refl;
      within = within;
      others = λ t c there p. by_cycle t c there (sym (is_range t c) ∙ p) (cases_lt t s) (cases_lt s t);
    }
      where
        not_marked : (b : Bool) (t : ℕ) → (b && (nat_le s t && nat_lt t (s + 1))) ≡ false → t ≡ s → b ≡ false
        not_marked b t p e = grind (arith, nat_tests)

        by_cycle : (t c : ℕ) → IsThere R v t c → (is_awake changes c && (nat_le s t && nat_lt t (s + 1))) ≡ false → (t < s) ⊎ (s ≤ t) → (s < t) ⊎ (t ≤ s) → (held_at rows2 t c).state ≡ (held_at v.rows t c).state
        by_cycle t c there p (inl h) q = other_states t c there (λ e. absurd (omega (arith, h, e)))
        by_cycle t c there p (inr h) (inl q) = other_states t c there (λ e. absurd (omega (arith, q, e)))
        by_cycle t c there p (inr h) (inr q) =
            let here : t ≡ s = omega (arith, h, q) in
            let unmarked_here = not_marked (is_awake changes c) t p here in
            ap (λ (r : Held State). r.state) (is_passed.passed t c there h (omega (arith, q))) ∙ sym ((told t c there h (omega (arith, q))).0 unmarked_here)
