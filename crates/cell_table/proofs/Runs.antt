-- The cells before the first that is due hold the run.
use Rattle.std.proofs.Common.{◌≡◌, ℕ, zero, suc, ◌+◌, ◌-◌, ◌<◌, ◌∙◌, sym, ap, subst, refl, arith, false, Some, List, [], ◌∷◌, map}
use Rattle.std.specs.List.{AllByRecursion}
use Rattle.std.proofs.lemmas.List.Elements.{recursion_from_All}
use Rattle.grid_law.specs.Rules.{Rules, Laws, result_of}
use Rattle.due_cells.specs.Seen.{Held, Seen, row_at, held_at, held_in}
use Rattle.cell_table.specs.Cells.{IsThere}
use Rattle.due_cells.specs.Inputs.{states_of}
use Rattle.cell_table.specs.Consistent.{IsTable, IsCurrentState}
use Rattle.cell_table.specs.Claims.{NoneDue}
use Rattle.grid_law.specs.Run.{run}
use Rattle.cell_table.proofs.Tables.{inputs_first, inputs_later}

states_known : {State : Type 0} (row : List (Held State)) (f : ℕ → State) (ms : List ℕ) → AllByRecursion (λ m. (held_in row m).state ≡ Some (f m)) ms → states_of row ms ≡ Some (map f ms)
states_known row f [] p = refl
states_known row f (m ∷ ms) p = rw (p.0, states_known row f ms p.1) refl

some_same : {X : Type 0} (x y : X) → Some x ≡ Some y → x ≡ y
some_same x y e = cc

module _ {State Slots Slot : Type 0} (R : Rules State Slots Slot) (laws : Laws R) (v : Seen State Slots) (table : IsTable R v.slots v.horizon v.rows) where
  some_step : (ms rest : List ℕ) (f : ℕ → State) (c : ℕ) → ms ≡ c ∷ rest → result_of R v.slots (map f ms) c ≡ R.step v.slots (map f ms) c
  some_step ms rest f c e = rw e refl

  -- a state computed from near states of the run is the run's
  pub step_near : (t c : ℕ) → AllByRecursion (λ m. (held_at v.rows t m).state ≡ Some (run R v.slots t m)) (R.near v.slots c) → (x : State) → IsCurrentState R v.slots v.rows (t + 1) c x → x ≡ run R v.slots (suc t) c
  step_near t c each x current =
      let back : (t + 1) - 1 ≡ t = omega arith in
      let known = states_known (row_at v.rows t) (run R v.slots t) (R.near v.slots c) each in
      let later = inputs_later R v.slots v.rows (t + 1) c (λ e. omega arith) ∙ ap (λ n. states_of (row_at v.rows n) (R.near v.slots c)) back ∙ known in
      let inputs : current.inputs ≡ map (run R v.slots t) (R.near v.slots c) = some_same _ _ (sym current.are_held ∙ later) in
      current.computed ∙ ap (λ xs. result_of R v.slots xs c) inputs ∙ some_step (R.near v.slots c) (laws.near_first v.slots c).0 (run R v.slots t) c (laws.near_first v.slots c).1

  step_run : (t c : ℕ) → c < R.components v.slots → ((m : ℕ) → m < R.components v.slots → (held_at v.rows t m).state ≡ Some (run R v.slots t m)) → (x : State) → IsCurrentState R v.slots v.rows (t + 1) c x → x ≡ run R v.slots (suc t) c
  step_run t c inside earlier x current =
      step_near t c (each (R.near v.slots c) (recursion_from_All _ (R.near v.slots c) (laws.near_within v.slots c inside))) x current
    where
      each : (ms : List ℕ) → AllByRecursion (λ m. m < R.components v.slots) ms → AllByRecursion (λ m. (held_at v.rows t m).state ≡ Some (run R v.slots t m)) ms
      each [] p = tt
      each (m ∷ ms) p = (earlier m p.0, each ms p.1)

  -- where no earlier cell is due, what is computed for a cell is the run
  pub computes_run : (t c : ℕ) → IsThere R v t c → ((t1 c1 : ℕ) → IsThere R v t1 c1 → t1 < t → (held_at v.rows t1 c1).is_due ≡ false) → (x : State) → IsCurrentState R v.slots v.rows t c x → x ≡ run R v.slots t c
  computes_run zero c there none x current =
      let empty : current.inputs ≡ [] = some_same _ _ (sym current.are_held ∙ inputs_first R v.slots v.rows 0 c refl) in
      current.computed ∙ ap (λ xs. result_of R v.slots xs c) empty
  computes_run (suc t) c there none x current =
      let e : suc t ≡ t + 1 = omega arith in
      step_run t c there.component (λ m k. let near : IsThere R v t m = record { cycle = omega (arith, there.cycle); component = k } in let held = table.consistent t m near.cycle k (none t m near (omega arith)) in held.holds ∙ ap Some (computes_run t m near (λ t1 c1 i j. none t1 c1 i (omega arith)) held.state held.is_current)) x (subst (λ n. IsCurrentState R v.slots v.rows n c x) e current)

  -- a cell that isn't due holds the run, where no earlier one is due
  pub holds_run_at : (t c : ℕ) → IsThere R v t c → ((t1 c1 : ℕ) → IsThere R v t1 c1 → t1 < t → (held_at v.rows t1 c1).is_due ≡ false) → (held_at v.rows t c).is_due ≡ false → (held_at v.rows t c).state ≡ Some (run R v.slots t c)
  holds_run_at t c there none settled =
      let held = table.consistent t c there.cycle there.component settled in
      held.holds ∙ ap Some (computes_run t c there none held.state held.is_current)

  pub holds_run : NoneDue R v → (t c : ℕ) → IsThere R v t c → (held_at v.rows t c).state ≡ Some (run R v.slots t c)
  holds_run none t c there = holds_run_at t c there (λ t1 c1 i j. none t1 c1 i) (none t c there)
