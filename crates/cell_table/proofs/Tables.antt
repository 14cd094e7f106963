-- What is true of each table, as the table is made and changed.
use Rattle.std.proofs.Common.{◌≡◌, ℕ, ◌+◌, ◌<◌, ◌≤◌, ◌∙◌, sym, ap, refl, arith, zero, suc, Bool, true, false, cond, ◌&&◌, ◌-◌, ◌⊎◌, inl, inr, eq-eqb, Option, None, Some, is_some, List, [], ◌∷◌, length, get_or, replicate, All}
use Rattle.std.specs.List.{AllByRecursion}
use Rattle.std.proofs.lemmas.List.Elements.{All-weaker, recursion_from_All}
use Rattle.std.proofs.lemmas.List.{length-replicate, get_or-replicate}
use Rattle.std.proofs.lemmas.Bool.{true≢false, false≢true, ne_eqb, cases_eq}
use Rattle.grid_law.specs.Rules.{Rules, Laws}
use Rattle.due_cells.specs.Seen.{Held, Seen, fresh, nothing, row_at, held_in, held_at}
use Rattle.cell_table.specs.Cells.{IsThere}
use Rattle.due_cells.specs.Inputs.{with_state, states_of, inputs_of}
use Rattle.cell_table.specs.Consistent.{IsTable}
use Rattle.cell_table.specs.Claims.{NoneFrom, NoneDue, is_claimable}

module _ {State Slots Slot : Type 0} (R : Rules State Slots Slot) where
  -- every cell is due
  pub is_table_new : (s : Slots) (horizon version : ℕ) → IsTable R s horizon (replicate (horizon + 1) (replicate (R.components s) (fresh version)))
  is_table_new s horizon version = record {
    whole = record {
      cycles = length-replicate _ _;
      components = λ t h. ap length (at_row t h) ∙ length-replicate _ _;
    };
    consistent = λ t c h k e. absurd (true≢false (sym (ap (λ (r : Held State). r.is_due) (at_cell t c h k)) ∙ e));
  }
    where
      at_row : (t : ℕ) → t ≤ horizon → row_at (replicate (horizon + 1) (replicate (R.components s) (fresh version))) t ≡ replicate (R.components s) (fresh {State = State} version)
      at_row t h = get_or-replicate (horizon + 1) t _ [] (omega arith)

      at_cell : (t c : ℕ) → t ≤ horizon → c < R.components s → held_at (replicate (horizon + 1) (replicate (R.components s) (fresh version))) t c ≡ fresh {State = State} version
      at_cell t c h k = ap (λ row. get_or row c nothing) (at_row t h) ∙ get_or-replicate (R.components s) c _ nothing k

module _ {State : Type 0} where
  both_there : (o : Option State) (r : Option (List State)) → is_some o ≡ true → is_some r ≡ true → is_some (with_state o r) ≡ true
  both_there None r h k = absurd (false≢true h)
  both_there (Some x) None h k = absurd (false≢true k)
  both_there (Some x) (Some xs) h k = refl

  -- where each component has a state, all their states are there
  pub all_there : (row : List (Held State)) (ms : List ℕ) → AllByRecursion (λ m. is_some (held_in row m).state ≡ true) ms → is_some (states_of row ms) ≡ true
  all_there row [] h = refl
  all_there row (m ∷ ms) h = both_there (held_in row m).state (states_of row ms) h.0 (all_there row ms h.1)

not_left : (x y : Bool) → (x && y) ≡ false → y ≡ true → x ≡ false
not_left true y h k = absurd (false≢true (sym h ∙ k))
not_left false y h k = refl

module _ {State Slots Slot : Type 0} (R : Rules State Slots Slot) where
  pub inputs_first : (s : Slots) (rows : List (List (Held State))) (t c : ℕ) → t ≡ 0 → inputs_of R s rows t c ≡ Some []
  inputs_first s rows t c h = ap (λ b. cond b (Some []) (states_of (row_at rows (t - 1)) (R.near s c))) (eq-eqb t 0 h)

  pub inputs_later : (s : Slots) (rows : List (List (Held State))) (t c : ℕ) → (t ≡ 0 → ⊥) → inputs_of R s rows t c ≡ states_of (row_at rows (t - 1)) (R.near s c)
  inputs_later s rows t c h = ap (λ b. cond b (Some []) (states_of (row_at rows (t - 1)) (R.near s c))) (ne_eqb t 0 h)

  -- what a cell is computed from is there, where the near cells one cycle earlier aren't due
  pub is_ready : (v : Seen State Slots) → Laws R → IsTable R v.slots v.horizon v.rows → (t c : ℕ) → IsThere R v t c → ((t ≡ 0 → ⊥) → (m : ℕ) → IsThere R v (t - 1) m → (held_at v.rows (t - 1) m).is_due ≡ false) → is_some (inputs_of R v.slots v.rows t c) ≡ true
  is_ready v laws table t c there earlier = by_cycle (cases_eq t 0)
    where
      near_held : (t ≡ 0 → ⊥) → All (λ m. is_some (held_at v.rows (t - 1) m).state ≡ true) (R.near v.slots c)
      near_held e =
          let l : t - 1 ≤ v.horizon = omega (arith, there.cycle) in
          All-weaker (λ m. m < R.components v.slots) (λ m. is_some (held_at v.rows (t - 1) m).state ≡ true) (λ m k. ap is_some (table.consistent (t - 1) m l k (earlier e m (record { cycle = l; component = k }))).holds) (R.near v.slots c) (laws.near_within v.slots c there.component)

      by_cycle : (t ≡ 0) ⊎ (t ≡ 0 → ⊥) → is_some (inputs_of R v.slots v.rows t c) ≡ true
      by_cycle (inl e) = ap is_some (inputs_first v.slots v.rows t c e)
      by_cycle (inr e) = ap is_some (inputs_later v.slots v.rows t c e) ∙ all_there (row_at v.rows (t - 1)) (R.near v.slots c) (recursion_from_All _ (R.near v.slots c) (near_held e))

  -- a cell that can't be claimed isn't due, where those near it one cycle earlier aren't
  not_due : (v : Seen State Slots) → Laws R → IsTable R v.slots v.horizon v.rows → (t c : ℕ) → IsThere R v t c → is_claimable R v t c ≡ false → ((t ≡ 0 → ⊥) → (m : ℕ) → IsThere R v (t - 1) m → (held_at v.rows (t - 1) m).is_due ≡ false) → (held_at v.rows t c).is_due ≡ false
  not_due v laws table t c there unclaimed earlier =
      not_left _ (is_some (inputs_of R v.slots v.rows t c)) unclaimed (is_ready v laws table t c there earlier)

  -- where no cell can be claimed, none is due: the first that is due could be claimed
  none_below : (v : Seen State Slots) → Laws R → IsTable R v.slots v.horizon v.rows → NoneFrom R v 0 0 → (n t c : ℕ) → t < n → IsThere R v t c → (held_at v.rows t c).is_due ≡ false
  none_below v laws table none zero t c h there = absurd (omega arith)
  none_below v laws table none (suc n) t c h there =
      not_due v laws table t c there (none t c there (omega arith, λ e. omega arith)) (λ e m k. none_below v laws table none n (t - 1) m (omega arith) k)

  pub none_due : (v : Seen State Slots) → Laws R → IsTable R v.slots v.horizon v.rows → NoneFrom R v 0 0 → NoneDue R v
  none_due v laws table none t c there = none_below v laws table none (t + 1) t c (omega arith) there
