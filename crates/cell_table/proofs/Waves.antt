-- What is computed for a cell where none of an earlier cycle is due.
use Rattle.std.proofs.Common.{◌≡◌, ◌⊎◌, inl, inr, ℕ, zero, suc, ◌+◌, ◌-◌, ◌<◌, ◌≤◌, ◌∙◌, sym, ap, subst, refl, arith, Bool, true, false, Option, None, Some, MatchOption, IfOk, is_some, option_map, Result, List, [], ◌∷◌, All, length}
use Rattle.std.specs.Prelude.{if◌then◌else◌}
use Rattle.std.proofs.lemmas.Bool.{cases_lt}
use Rattle.std.proofs.lemmas.List.{length-append}
use Rattle.std.proofs.lemmas.List.Elements.{All-nil, All-cons, All-append}
use Rattle.cell_states.specs.declared.cell.Cell.{Cell}
use Rattle.cell_table.specs.Events.{Event, Stores, Start}
use Rattle.cell_table.specs.Stands.{Stands}
use Rattle.cell_table.specs.Cost.{SettlesFirst}
use Rattle.cell_table.proofs.Ordering.{before_next}
use Rattle.cell_table.proofs.Costing.{settles_first}
use Rattle.grid_law.specs.Rules.{Rules, Laws}
use Rattle.grid_law.specs.Run.{run}
use Rattle.due_cells.specs.Seen.{Held, Seen, held_at, due_at}
use Rattle.cell_table.specs.Cells.{IsThere}
use Rattle.due_cells.specs.Inputs.{inputs_of}
use Rattle.cell_table.specs.Consistent.{IsTable, current_of}
use Rattle.cell_table.specs.Settling.{NoneDueBefore, IsAsBefore, SettlesNext}
use Rattle.cell_table.specs.Waves.{Worked, works_below, IsReady, IsFound, IsNextWave}
use Rattle.cell_table.proofs.Tables.{is_ready}
use Rattle.cell_table.proofs.Stores.{current_of_inputs}
use Rattle.cell_table.proofs.Shortcut.{ok_along}
use Rattle.cell_table.proofs.Runs.{computes_run, holds_run_at}

one_state : {X : Type 0} (x y : X) → Some x ≡ Some y → x ≡ y
one_state x y e = cc

module _ {State Slots Slot : Type 0} (R : Rules State Slots Slot) (laws : Laws R) (v : Seen State Slots) (table : IsTable R v.slots v.horizon v.rows) (t c : ℕ) (ready : IsReady R v t c) where
  none_earlier : (t1 c1 : ℕ) → IsThere R v t1 c1 → t1 < t → (held_at v.rows t1 c1).is_due ≡ false
  none_earlier t1 c1 there h = ready.none_earlier t1 c1 there (omega arith, λ e. absurd (omega arith))

  -- its near states are there
  pub inputs_there : is_some (inputs_of R v.slots v.rows t c) ≡ true
  inputs_there = is_ready R v laws table t c ready.there (λ e m k. none_earlier (t - 1) m k (omega arith))

  -- and give the state of the run
  current_runs : current_of R v.slots v.rows t c ≡ run R v.slots t c
  current_runs = computes_run R laws v table t c ready.there none_earlier (current_of R v.slots v.rows t c) (current_of_inputs R v.slots v.rows t c inputs_there)

  -- the cell before it holds the run
  before_runs : 0 < t → (held_at v.rows (t - 1) c).state ≡ Some (run R v.slots (t - 1) c)
  before_runs h =
      let there : IsThere R v (t - 1) c = record { cycle = omega (arith, ready.there.cycle); component = ready.there.component } in
      holds_run_at R laws v table (t - 1) c there (λ t1 c1 i j. none_earlier t1 c1 i (omega arith)) (none_earlier (t - 1) c there (omega arith))

  found_as : {A : Type 0} (value : A → State) (o : Option A) → MatchOption o (IsAsBefore R v t c) (λ x. value x ≡ current_of R v.slots v.rows t c) → IsFound R v.slots t c (option_map value o)
  found_as value None before = (before.later, one_state _ _ (sym (before_runs before.later) ∙ before.holds) ∙ current_runs)
  found_as value (Some x) is = is ∙ current_runs

  -- what is computed is of the run
  pub finds : {A E : Type 0} (value : A → State) (r : Result (Option A) E) → IfOk r (λ o. MatchOption o (IsAsBefore R v t c) (λ x. value x ≡ current_of R v.slots v.rows t c)) → IfOk r (λ o. IsFound R v.slots t c (option_map value o))
  finds value r = ok_along (found_as value) r

  -- what was found of the run is what would be computed
  pub state_found : (x : State) → IsFound R v.slots t c (Some x) → x ≡ current_of R v.slots v.rows t c
  state_found x is = is ∙ sym current_runs

  pub before_found : IsFound R v.slots t c None → IsAsBefore R v t c
  before_found is = record { later = is.0; holds = before_runs is.0 ∙ ap Some (is.1 ∙ sym current_runs) }

-- what was stored by one step is the first cell that costs
pub step_settled : {State Slots Slot : Type 0} (R : Rules State Slots Slot) (laws : Laws R) (old new : Seen State Slots) (t0 c0 : ℕ) (cell : Cell) (s : SettlesNext R old new t0 c0 cell)
    → (o : Start Slots) (h : List (Event State Slots Slot)) → Stands R o old h
    → SettlesFirst R o h new (Stores cell.cycle cell.component (run R old.slots cell.cycle cell.component) s.changed ∷ []) 1
step_settled R laws old new t0 c0 cell s o h stands =
    settles_first R laws o h old stands (Stores cell.cycle cell.component (run R old.slots cell.cycle cell.component) s.changed ∷ []) new cell.cycle (cell.component + 1) (old, refl, s.settled, before_next cell.cycle cell.component) s.none_before s.runs_before

-- ---- the works of a cycle

module _ {State : Type 0} (rows : List (List (Held State))) (t : ℕ) where
  -- the work of one component, where its cell is due
  abbrev work_at : ℕ → List (Worked State)
  work_at c = if due_at rows t c then record { cell = record { cycle = t; component = c }; known = None } ∷ [] else []

  one_of_cycle : (w : Worked State) → w.cell.cycle ≡ t → (b : Bool) → All (λ (x : Worked State). x.cell.cycle ≡ t) (if b then w ∷ [] else [])
  one_of_cycle w is true = All-cons (λ (x : Worked State). x.cell.cycle ≡ t) w [] is (All-nil (λ (x : Worked State). x.cell.cycle ≡ t))
  one_of_cycle w is false = All-nil (λ (x : Worked State). x.cell.cycle ≡ t)

  of_cycle : (n : ℕ) → All (λ (w : Worked State). w.cell.cycle ≡ t) (works_below rows t n)
  of_cycle zero = All-nil (λ (w : Worked State). w.cell.cycle ≡ t)
  of_cycle (suc n) = All-append (λ (w : Worked State). w.cell.cycle ≡ t) (works_below rows t n) (work_at n) (of_cycle n) (one_of_cycle _ refl (due_at rows t n))

  -- a due cell has its work
  some_below : (c n : ℕ) → c < n → due_at rows t c ≡ true → 0 < length (works_below rows t n)
  some_below c zero h due = absurd (omega arith)
  some_below c (suc n) h due = by_place (λ k. some_below c n k due) (cases_lt c n)
    where
      more : length (works_below rows t (suc n)) ≡ length (works_below rows t n) + length (work_at n)
      more = length-append (works_below rows t n) (work_at n)

      by_place : (c < n → 0 < length (works_below rows t n)) → (c < n) ⊎ (n ≤ c) → 0 < length (works_below rows t (suc n))
      by_place before (inl k) = let some = before k in omega (arith, more, some)
      by_place before (inr k) =
          let is : c ≡ n = omega arith in
          let here : due_at rows t n ≡ true = subst (λ x. due_at rows t x ≡ true) is due in
          let one : length (work_at n) ≡ 1 = ap (λ b. length {A = Worked State} (if b then record { cell = record { cycle = t; component = n }; known = None } ∷ [] else [])) here in
          omega (arith, more, one)

-- they are ready where none of an earlier cycle is due
module _ {State Slots Slot : Type 0} (R : Rules State Slots Slot) (v : Seen State Slots) (t : ℕ) (there : t ≤ v.horizon) (none : NoneDueBefore R v t 0) where
  one_ready : (w : Worked State) → IsReady R v w.cell.cycle w.cell.component → (b : Bool) → All (λ (x : Worked State). IsReady R v x.cell.cycle x.cell.component) (if b then w ∷ [] else [])
  one_ready w is true = All-cons (λ (x : Worked State). IsReady R v x.cell.cycle x.cell.component) w [] is (All-nil (λ (x : Worked State). IsReady R v x.cell.cycle x.cell.component))
  one_ready w is false = All-nil (λ (x : Worked State). IsReady R v x.cell.cycle x.cell.component)

  pub ready_below : (n : ℕ) → n ≤ R.components v.slots → All (λ (w : Worked State). IsReady R v w.cell.cycle w.cell.component) (works_below v.rows t n)
  ready_below zero few = All-nil (λ (w : Worked State). IsReady R v w.cell.cycle w.cell.component)
  ready_below (suc n) few =
      let here : IsThere R v t n = record { cycle = there; component = omega arith } in
      All-append (λ (w : Worked State). IsReady R v w.cell.cycle w.cell.component) (works_below v.rows t n) (work_at v.rows t n) (ready_below n (omega arith))
      (one_ready (record { cell = record { cycle = t; component = n }; known = None }) (record { there = here; none_earlier = none }) (due_at v.rows t n))

-- the works of a cycle with a due cell, where none of an earlier cycle is due, are the next wave
pub next_wave : {State Slots Slot : Type 0} (R : Rules State Slots Slot) (v : Seen State Slots) (t c : ℕ) → NoneDueBefore R v t 0 → c < R.components v.slots → due_at v.rows t c ≡ true
    → (works : List (Worked State)) → works ≡ works_below v.rows t (R.components v.slots) → IsNextWave R v works
next_wave {State} R v t c none there due [] is =
    let some = some_below v.rows t c (R.components v.slots) there due in
    let empty : length (works_below v.rows t (R.components v.slots)) ≡ 0 = ap length (sym is) in
    absurd (omega (arith, some, empty))
next_wave {State} R v t c none there due (w ∷ works) is =
    let of : All (λ (x : Worked State). x.cell.cycle ≡ t) (w ∷ works) = subst (All (λ (x : Worked State). x.cell.cycle ≡ t)) (sym is) (of_cycle v.rows t (R.components v.slots)) in
    let cycle : w.cell.cycle ≡ t = of 0 w (omega arith) in
    (subst (λ k. NoneDueBefore R v k 0) (sym cycle) none, is ∙ ap (λ k. works_below v.rows k (R.components v.slots)) (sym cycle))
