-- A table stays one as its slots and its horizon change.
use Rattle.std.proofs.Common.{◌≡◌, ℕ, ◌+◌, ◌-◌, ◌<◌, ◌≤◌, ◌∙◌, sym, ap, refl, arith, Bool, true, false, cond, ltb, ◌⊎◌, inl, inr, Some, List, [], ◌∷◌, length}
use Rattle.std.specs.List.{AllByRecursion, Contains, list_any}
use Rattle.std.proofs.lemmas.Bool.{true≢false, cases_eq, ltb-false, le-ltb, lt-ltb, cases_lt}
use Rattle.std.proofs.lemmas.List.Elements.{recursion_from_All, All-from_recursion, All-contains}
use Rattle.grid_law.specs.Rules.{Rules, Laws, Agrees, Differ}
use Rattle.due_cells.specs.Seen.{Held, Seen, row_at, held_at, fresh, marked}
use Rattle.cell_table.specs.Cells.{IsThere}
use Rattle.due_cells.specs.Inputs.{states_of, inputs_of}
use Rattle.cell_table.specs.Consistent.{IsTable, IsCurrent}
use Rattle.cell_table.specs.Reads.{reads_any}
use Rattle.cell_states.specs.declared.cell.CellRange.{CellRange}
use Rattle.cell_table.specs.Touches.{cell_reads, held_touched}
use Rattle.due_cells.specs.Ranges.{held_marked, is_marked}
use Rattle.due_cells.proofs.States.{states_same, neither}
use Rattle.cell_table.proofs.Tables.{inputs_first, inputs_later}

none_passes : {X : Type 0} (test : X → Bool) (xs : List X) → list_any test xs ≡ false → AllByRecursion (λ x. test x ≡ false) xs
none_passes test [] h = tt
none_passes test (x ∷ xs) h = let p = neither (test x) (list_any test xs) h in (p.0, none_passes test xs p.1)

pub not_contained : {X : Type 0} (test : X → Bool) (xs : List X) (x : X) → list_any test xs ≡ false → test x ≡ true → Contains xs x → ⊥
not_contained test xs x h k i =
    true≢false (sym k ∙ All-contains (λ y. test y ≡ false) xs x (All-from_recursion (λ y. test y ≡ false) xs (none_passes test xs h)) i)

module _ {State : Type 0} where
  due_touched : (b1 b2 : Bool) (r : Held State) (v : ℕ) → (cond b1 (fresh {State = State} v) (cond b2 (marked r v) r)).is_due ≡ false → (b1 ≡ false) × (b2 ≡ false) × (r.is_due ≡ false)
  due_touched true b2 r v f = absurd (true≢false f)
  due_touched false true r v f = absurd (true≢false f)
  due_touched false false r v f = (refl, refl, f)

  state_touched : (b1 b2 : Bool) (r : Held State) (v : ℕ) → b1 ≡ false → (cond b1 (fresh {State = State} v) (cond b2 (marked r v) r)).state ≡ r.state
  state_touched true b2 r v f = absurd (true≢false f)
  state_touched false true r v f = refl
  state_touched false false r v f = refl

module _ {State Slots Slot : Type 0} (R : Rules State Slots Slot) (laws : Laws R) (v : Seen State Slots) (table : IsTable R v.slots v.horizon v.rows) (next : Slots) (listed : List Slot) (differ : Differ R v.slots next listed) (to : ℕ) (news : List (List (Held State))) (at : (t c : ℕ) → t ≤ to → c < R.components v.slots → held_at news t c ≡ held_touched R v listed t c) where
  -- the slots that a cell reads are the same after the edit, where it reads none of those listed
  pub agrees_after : (near : List State) (c : ℕ) → reads_any R v.slots c listed (Some near) ≡ false → Agrees R v.slots next near c
  agrees_after near c h = record {
    shape = differ.shape;
    slots = λ slot r. differ.complete slot (not_contained (λ s. R.reads v.slots near c s) listed slot h r);
  }

  kept_state : (t c : ℕ) → t ≤ to → t ≤ v.horizon → c < R.components v.slots → (held_at news t c).state ≡ (held_at v.rows t c).state
  kept_state t c h i k =
      ap (λ (r : Held State). r.state) (at t c h k) ∙ state_touched (ltb v.horizon t) _ (held_at v.rows t c) _ (le-ltb v.horizon t i)

  pub kept_inputs : (t c : ℕ) → t ≤ to → t ≤ v.horizon → c < R.components v.slots → inputs_of R next news t c ≡ inputs_of R v.slots v.rows t c
  kept_inputs t c h i k = by_cycle (cases_eq t 0)
    where
      by_cycle : (t ≡ 0) ⊎ (t ≡ 0 → ⊥) → inputs_of R next news t c ≡ inputs_of R v.slots v.rows t c
      by_cycle (inl z) = inputs_first R next news t c z ∙ sym (inputs_first R v.slots v.rows t c z)
      by_cycle (inr n) =
          inputs_later R next news t c n ∙ ap (states_of (row_at news (t - 1))) (sym (laws.shape_near v.slots next c differ.shape)) ∙ states_same (row_at news (t - 1)) (row_at v.rows (t - 1)) (R.near v.slots c) (all_near (R.near v.slots c) (recursion_from_All _ (R.near v.slots c) (laws.near_within v.slots c k))) ∙ sym (inputs_later R v.slots v.rows t c n)
        where
          all_near : (ms : List ℕ) → AllByRecursion (λ m. m < R.components v.slots) ms → AllByRecursion (λ m. (held_at news (t - 1) m).state ≡ (held_at v.rows (t - 1) m).state) ms
          all_near [] p = tt
          all_near (m ∷ ms) p = (kept_state (t - 1) m (omega arith) (omega arith) p.0, all_near ms p.1)

  pub is_table_touched : length news ≡ to + 1 → ((t : ℕ) → t ≤ to → length (row_at news t) ≡ R.components v.slots) → IsTable R next to news
  is_table_touched len whole = record {
    whole = record {
      cycles = len;
      components = λ t h. whole t h ∙ laws.shape_components v.slots next differ.shape;
    };
    consistent = λ t c h k due. current t c h (omega (arith, laws.shape_components v.slots next differ.shape)) due;
  }
    where
      current : (t c : ℕ) → t ≤ to → c < R.components v.slots → (held_at news t c).is_due ≡ false → IsCurrent R next news t c
      current t c h k due =
          let p = due_touched (ltb v.horizon t) (cell_reads R v.slots v.rows listed t c) (held_at v.rows t c) _ (sym (ap (λ (r : Held State). r.is_due) (at t c h k)) ∙ due) in
          let i : t ≤ v.horizon = ltb-false v.horizon t p.0 in
          let old = table.consistent t c i k p.2 in
          let unread : reads_any R v.slots c listed (Some old.is_current.inputs) ≡ false = sym (ap (reads_any R v.slots c listed) old.is_current.are_held) ∙ p.1 in
          record {
            state = old.state;
            holds = kept_state t c h i k ∙ old.holds;
            is_current = record {
              inputs = old.is_current.inputs;
              are_held = kept_inputs t c h i k ∙ old.is_current.are_held;
              computed = old.is_current.computed ∙ laws.same_result v.slots next old.is_current.inputs c (agrees_after old.is_current.inputs c unread);
            };
          }

module _ {State Slots Slot : Type 0} (R : Rules State Slots Slot) (v : Seen State Slots) (listed : List Slot) (marks : List CellRange) (to : ℕ) where
  -- the marks are those of the cells that read a slot listed
  pub touched_from_marks : length v.rows ≡ v.horizon + 1 → ((t c : ℕ) → t ≤ to → IsThere R v t c → is_marked marks t c ≡ cell_reads R v.slots v.rows listed t c) → (t c : ℕ) → t ≤ to → c < R.components v.slots → held_marked v.rows marks (v.clock + 1) t c ≡ held_touched R v listed t c
  touched_from_marks len at t c l k = by_cycle (cases_lt v.horizon t)
    where
      by_cycle : (v.horizon < t) ⊎ (t ≤ v.horizon) → held_marked v.rows marks (v.clock + 1) t c ≡ held_touched R v listed t c
      by_cycle (inl h) = rw (lt-ltb v.horizon t h, le-ltb t (length v.rows) (omega arith)) refl
      by_cycle (inr h) = rw (le-ltb v.horizon t h, lt-ltb t (length v.rows) (omega arith), at t c l (record { cycle = h; component = k })) refl
