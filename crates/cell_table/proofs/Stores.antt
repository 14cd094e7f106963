-- A table stays one as a state is stored.
use Rattle.std.proofs.Common.{◌≡◌, ℕ, ◌+◌, ◌-◌, ◌<◌, ◌≤◌, ◌∙◌, sym, ap, refl, arith, Bool, true, false, cond, ◌&&◌, eqb, ◌⊎◌, inl, inr, Option, None, Some, is_some, unwrap_or, List, [], ◌∷◌, length}
use Rattle.std.specs.List.{AllByRecursion}
use Rattle.std.proofs.lemmas.Bool.{true≢false, false≢true, cases_eq, and_parts, and_cases, and_left, and_right, ne_eqb, eqb-true, eqb-false}
use Rattle.std.proofs.lemmas.List.Elements.{recursion_from_All}
use Rattle.grid_law.specs.Rules.{Rules, Laws}
use Rattle.due_cells.specs.Seen.{Held, Seen, row_at, held_at, stored, marked}
use Rattle.due_cells.specs.Inputs.{inputs_of}
use Rattle.cell_table.specs.Consistent.{IsTable, IsCurrent, IsCurrentState, current_of}
use Rattle.cell_states.specs.Near.{has}
use Rattle.cell_table.specs.Claims.{Claimed, result_for}
use Rattle.due_cells.specs.Stores.{held_after}
use Rattle.cell_table.specs.Gives.{IsPresent, IsAfterStore, HoldsSame}
use Rattle.due_cells.proofs.States.{states_same, none_has}
use Rattle.cell_table.proofs.Tables.{inputs_first, inputs_later}

all_both : {P Q S : ℕ → Type 0} (ms : List ℕ) → ((m : ℕ) → P m → Q m → S m) → AllByRecursion P ms → AllByRecursion Q ms → AllByRecursion S ms
all_both [] f p q = tt
all_both (m ∷ ms) f p q = (f m p.0 q.0, all_both ms f p.1 q.1)

all_any : {Q : ℕ → Type 0} (ms : List ℕ) → ((m : ℕ) → Q m) → AllByRecursion Q ms
all_any [] f = tt
all_any (m ∷ ms) f = (f m, all_any ms f)

module _ {State : Type 0} where
  state_after : (b1 b2 : Bool) (r : Held State) (x : State) (v : ℕ) → (b1 ≡ true → r.state ≡ Some x) → (cond b1 (stored x) (cond b2 (marked r v) r)).state ≡ r.state
  state_after true b2 r x v f = sym (f refl)
  state_after false true r x v f = refl
  state_after false false r x v f = refl

  due_after : (b1 b2 : Bool) (r : Held State) (x : State) (v : ℕ) → (cond b1 (stored x) (cond b2 (marked r v) r)).is_due ≡ false → (b1 ≡ true) ⊎ ((b1 ≡ false) × (b2 ≡ false) × (r.is_due ≡ false))
  due_after true b2 r x v f = inl refl
  due_after false true r x v f = absurd (true≢false f)
  due_after false false r x v f = inr (refl, refl, f)

module _ {State Slots Slot : Type 0} (R : Rules State Slots Slot) (laws : Laws R) (s : Slots) (horizon : ℕ) (rows news : List (List (Held State))) (table : IsTable R s horizon rows) (t c : ℕ) (x : State) (changed : Bool) (version : ℕ) (same : changed ≡ false → (held_at rows t c).state ≡ Some x) (at : (t1 c1 : ℕ) → t1 ≤ horizon → c1 < R.components s → held_at news t1 c1 ≡ held_after R s rows t c x changed version t1 c1) where
  -- a state changes only where one was stored
  kept_state : (t1 c1 : ℕ) → ((t1 ≡ t) → (c1 ≡ c) → changed ≡ false) → (held_after R s rows t c x changed version t1 c1).state ≡ (held_at rows t1 c1).state
  kept_state t1 c1 safe =
      state_after ((eqb t1 t) && (eqb c1 c)) _ (held_at rows t1 c1) x version (λ e. let p = and_parts (eqb t1 t) (eqb c1 c) e in rw (eqb-true t1 t p.0, eqb-true c1 c p.1) (same (safe (eqb-true t1 t p.0) (eqb-true c1 c p.1))))

  -- the states that a cell is computed from stay, where it isn't marked
  kept_inputs : (t1 c1 : ℕ) → t1 ≤ horizon → c1 < R.components s → (changed && ((eqb t1 (t + 1)) && has (R.near s c1) c)) ≡ false → inputs_of R s news t1 c1 ≡ inputs_of R s rows t1 c1
  kept_inputs t1 c1 h k e = by_cycle (cases_eq t1 0)
    where
      safe : (t1 ≡ 0 → ⊥) → (changed ≡ false) ⊎ (((eqb t1 (t + 1)) && has (R.near s c1) c) ≡ false) → AllByRecursion (λ m. (t1 - 1 ≡ t) → (m ≡ c) → changed ≡ false) (R.near s c1)
      safe n (inl f) = all_any (R.near s c1) (λ m p q. f)
      safe n (inr f) = by_near (and_cases (eqb t1 (t + 1)) (has (R.near s c1) c) f)
        where
          by_near : (eqb t1 (t + 1) ≡ false) ⊎ (has (R.near s c1) c ≡ false) → AllByRecursion (λ m. (t1 - 1 ≡ t) → (m ≡ c) → changed ≡ false) (R.near s c1)
          by_near (inl g) = all_any (R.near s c1) (λ m p q. absurd (eqb-false t1 (t + 1) g (omega arith)))
          by_near (inr g) = all_both (R.near s c1) (λ m p q i j. absurd (p j)) (none_has (R.near s c1) c g) (all_any {Q = λ m. Unit {0}} (R.near s c1) (λ m. tt))

      by_cycle : (t1 ≡ 0) ⊎ (t1 ≡ 0 → ⊥) → inputs_of R s news t1 c1 ≡ inputs_of R s rows t1 c1
      by_cycle (inl z) = inputs_first R s news t1 c1 z ∙ sym (inputs_first R s rows t1 c1 z)
      by_cycle (inr n) =
          inputs_later R s news t1 c1 n ∙ states_same (row_at news (t1 - 1)) (row_at rows (t1 - 1)) (R.near s c1) (all_both (R.near s c1) (λ m p q. ap (λ (r : Held State). r.state) (at (t1 - 1) m (omega arith) p) ∙ kept_state (t1 - 1) m q) (recursion_from_All _ (R.near s c1) (laws.near_within s c1 k)) (safe n (and_cases changed _ e))) ∙ sym (inputs_later R s rows t1 c1 n)

  consistent_after : (current : IsCurrentState R s rows t c x) → (t1 c1 : ℕ) → t1 ≤ horizon → c1 < R.components s → (held_at news t1 c1).is_due ≡ false → IsCurrent R s news t1 c1
  consistent_after current t1 c1 h k due =
      by_case (due_after ((eqb t1 t) && (eqb c1 c)) _ (held_at rows t1 c1) x version (sym (ap (λ (r : Held State). r.is_due) (at t1 c1 h k)) ∙ due))
    where
      by_case : (((eqb t1 t) && (eqb c1 c)) ≡ true) ⊎ ((((eqb t1 t) && (eqb c1 c)) ≡ false) × ((changed && ((eqb t1 (t + 1)) && has (R.near s c1) c)) ≡ false) × ((held_at rows t1 c1).is_due ≡ false)) → IsCurrent R s news t1 c1
      by_case (inl e) =
          let p = and_parts (eqb t1 t) (eqb c1 c) e in
          let i : t1 ≡ t = eqb-true t1 t p.0 in
          let j : c1 ≡ c = eqb-true c1 c p.1 in
          let unmarked : (changed && ((eqb t1 (t + 1)) && has (R.near s c1) c)) ≡ false = and_right changed _ (and_left (eqb t1 (t + 1)) _ (ne_eqb t1 (t + 1) (λ q. absurd (omega arith)))) in
          record {
            state = x;
            holds = ap (λ (r : Held State). r.state) (at t1 c1 h k) ∙ ap (λ b. (cond b (stored x) (cond (changed && ((eqb t1 (t + 1)) && has (R.near s c1) c)) (marked (held_at rows t1 c1) version) (held_at rows t1 c1))).state) e;
            is_current = record {
              inputs = current.inputs;
              are_held = kept_inputs t1 c1 h k unmarked ∙ rw (i, j) current.are_held;
              computed = rw j current.computed;
            };
          }
      by_case (inr q) =
          let old = table.consistent t1 c1 h k q.2 in
          record {
            state = old.state;
            holds = ap (λ (r : Held State). r.state) (at t1 c1 h k) ∙ state_after ((eqb t1 t) && (eqb c1 c)) _ (held_at rows t1 c1) x version (λ e. absurd (true≢false (sym e ∙ q.0))) ∙ old.holds;
            is_current = record {
              inputs = old.is_current.inputs;
              are_held = kept_inputs t1 c1 h k q.1 ∙ old.is_current.are_held;
              computed = old.is_current.computed;
            };
          }

  pub is_table_after : IsCurrentState R s rows t c x → length news ≡ length rows → ((t1 : ℕ) → t1 ≤ horizon → length (row_at news t1) ≡ R.components s) → IsTable R s horizon news
  is_table_after current len whole = record {
    whole = record { cycles = len ∙ table.whole.cycles; components = whole };
    consistent = consistent_after current;
  }

module _ {State Slots Slot : Type 0} (R : Rules State Slots Slot) where
  -- what was computed from what is there now is current
  pub current_from_present : Laws R → (v : Seen State Slots) (claim : Claimed State Slots) (x : State) → IsPresent R v claim → x ≡ result_for R claim → IsCurrentState R v.slots v.rows claim.cell.cycle claim.cell.component x
  current_from_present laws v claim x present computed = record {
    inputs = claim.near;
    are_held = present.inputs;
    computed = computed ∙ laws.same_result claim.slots v.slots claim.near claim.cell.component present.agrees;
  }

  pub parts_there : (o : Option (List State)) → is_some o ≡ true → o ≡ Some (unwrap_or o [])
  parts_there None h = absurd (false≢true h)
  parts_there (Some xs) h = refl

  -- what the near states give is current, where all of them are there
  pub current_of_inputs : (s : Slots) (rows : List (List (Held State))) (t c : ℕ) → is_some (inputs_of R s rows t c) ≡ true → IsCurrentState R s rows t c (current_of R s rows t c)
  current_of_inputs s rows t c h = record {
    inputs = unwrap_or (inputs_of R s rows t c) [];
    are_held = parts_there (inputs_of R s rows t c) h;
    computed = refl;
  }

-- where a store changes nothing, each cell holds what it held
module _ {State Slots Slot : Type 0} (R : Rules State Slots Slot) where
  pub holds_same : (old new : Seen State Slots) (t c : ℕ) (x : State) (changed : Bool) → IsAfterStore R old new t c x changed → changed ≡ false → HoldsSame R old new
  holds_same old new t c x changed after same = record {
    slots = after.slots;
    horizon = after.horizon;
    states = λ t1 c1 there. ap (λ (r : Held State). r.state) (after.cells t1 c1 there) ∙ state_after ((eqb t1 t) && (eqb c1 c)) _ (held_at old.rows t1 c1) x new.clock (λ e. let p = and_parts (eqb t1 t) (eqb c1 c) e in rw (eqb-true t1 t p.0, eqb-true c1 c p.1) (after.changes.0 same));
  }
