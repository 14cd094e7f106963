-- One due cell is settled.
use Rattle.std.proofs.Common.{◌≡◌, ◌≢◌, ℕ, ◌+◌, ◌-◌, ◌^◌, ◌<◌, ◌∙◌, sym, ap, subst, refl, arith, Bool, true, false, cond, ◌&&◌, eqb, ◌⊎◌, inl, inr, Some, is_some}
use Rattle.std.proofs.lemmas.Bool.{true≢false, false≢true, cases_eq, and_left, and_right, and_parts, ne_eqb, eq-eqb, eqb-true}
use Rattle.cell_states.specs.declared.cell.Cell.{Cell}
use Rattle.cell_table.specs.declared.given.Given.TheVariants.{Stored}
use Rattle.grid_law.specs.Rules.{Rules, Laws}
use Rattle.due_cells.specs.Seen.{Held, Seen, held_at, stored, marked}
use Rattle.cell_table.specs.Cells.{IsThere, AtOrAfter, Before}
use Rattle.due_cells.specs.Inputs.{inputs_of}
use Rattle.cell_table.specs.Consistent.{IsTable, IsCurrentState, current_of}
use Rattle.cell_states.specs.Near.{has}
use Rattle.cell_table.specs.Gives.{IsAfterStore, GivesAs}
use Rattle.grid_law.specs.Run.{run}
use Rattle.cell_table.specs.Claims.{Computed, NoneDue, result_for}
use Rattle.cell_table.specs.Settling.{NoneDueBefore, NoneDueFrom, HoldsRunBefore, IsSettled, IsNextDue, SettlesNext, IsSpent, IsSpentBefore}
use Rattle.cell_table.proofs.Ordering.{before_or_after}
use Rattle.cell_table.proofs.Tables.{is_ready}
use Rattle.cell_table.proofs.Stores.{current_of_inputs, current_from_present}
use Rattle.cell_table.proofs.Runs.{computes_run, holds_run_at, holds_run}

due_kept : {State : Type 0} (b1 b2 : Bool) (r : Held State) (x : State) (v : ℕ) → (b1 ≡ false → (b2 ≡ false) × (r.is_due ≡ false)) → (cond b1 (stored x) (cond b2 (marked r v) r)).is_due ≡ false
due_kept true b2 r x v f = refl
due_kept false true r x v f = absurd (true≢false (f refl).0)
due_kept false false r x v f = (f refl).1

state_is : {State : Type 0} (b1 b2 : Bool) (r : Held State) (x y : State) (v : ℕ) → (b1 ≡ true → x ≡ y) → (b1 ≡ false → r.state ≡ Some y) → (cond b1 (stored x) (cond b2 (marked r v) r)).state ≡ Some y
state_is true b2 r x y v f g = ap Some (f refl)
state_is false true r x y v f g = g refl
state_is false false r x y v f g = g refl

-- a table in which no cell is due, before that cell or after it
pub is_settled : {State Slots Slot : Type 0} (R : Rules State Slots Slot) (laws : Laws R) (v : Seen State Slots) → IsTable R v.slots v.horizon v.rows → (t0 c0 : ℕ) → NoneDueBefore R v t0 c0 → NoneDueFrom R v t0 c0 → IsSettled R v
is_settled {State} {Slots} {Slot} R laws v table t0 c0 before from = record { none_due = none; runs = holds_run R laws v table none }
  where
    none : NoneDue R v
    none t c there = by_place (before_or_after t0 c0 t c)
      where
        by_place : Before t c t0 c0 ⊎ AtOrAfter t0 c0 t c → (held_at v.rows t c).is_due ≡ false
        by_place (inl p) = before t c there p
        by_place (inr p) = from t c there p

module _ {State Slots Slot : Type 0} (R : Rules State Slots Slot) (laws : Laws R) (old : Seen State Slots) (table : IsTable R old.slots old.horizon old.rows) (t0 c0 : ℕ) (before : NoneDueBefore R old t0 c0) (cell : Cell) (next : IsNextDue R old t0 c0 cell) where
  none_before : NoneDueBefore R old cell.cycle cell.component
  none_before t c there b = by_place (before_or_after t0 c0 t c)
    where
      by_place : Before t c t0 c0 ⊎ AtOrAfter t0 c0 t c → (held_at old.rows t c).is_due ≡ false
      by_place (inl p) = before t c there p
      by_place (inr p) = next.none_between t c there p b

  none_earlier : (t c : ℕ) → IsThere R old t c → t < cell.cycle → (held_at old.rows t c).is_due ≡ false
  none_earlier t c there h = none_before t c there (omega arith, λ e. absurd (omega arith))

  -- its near states are there
  pub ready : is_some (inputs_of R old.slots old.rows cell.cycle cell.component) ≡ true
  ready = is_ready R old laws table cell.cycle cell.component next.there (λ e m k. none_earlier (cell.cycle - 1) m k (omega arith))

  -- and give the state of the run
  runs : current_of R old.slots old.rows cell.cycle cell.component ≡ run R old.slots cell.cycle cell.component
  runs = computes_run R laws old table cell.cycle cell.component next.there none_earlier (current_of R old.slots old.rows cell.cycle cell.component) (current_of_inputs R old.slots old.rows cell.cycle cell.component ready)

  -- any store of that state settles the cell
  pub settles_as : (new : Seen State Slots) (x : State) (changed : Bool) → x ≡ run R old.slots cell.cycle cell.component → IsAfterStore R old new cell.cycle cell.component x changed → (changed ≡ true → old.clock < 2 ^ 64 - 1) → SettlesNext R old new t0 c0 cell
  settles_as new x changed is_run stores room = record {
    after = next.after;
    changed = changed;
    settled = record {
      there = next.there;
      due = next.due;
      none_before = none_before;
      runs = refl;
      after = after;
    };
    room = room;
    none_before = now;
    runs_before = runs_now;
  }
    where
      after : IsAfterStore R old new cell.cycle cell.component (run R old.slots cell.cycle cell.component) changed
      after = subst (λ y. IsAfterStore R old new cell.cycle cell.component y changed) is_run stores

      was_there : (t c : ℕ) → IsThere R new t c → IsThere R old t c
      was_there t c there = record { cycle = omega (arith, there.cycle, after.horizon); component = subst (λ s. c < R.components s) after.slots there.component }

      not_both : (t c : ℕ) → (eqb t cell.cycle && eqb c cell.component) ≡ false → t ≡ cell.cycle → c ≡ cell.component → ⊥
      not_both t c f e g = false≢true (sym f ∙ ap (λ b. b && eqb c cell.component) (eq-eqb t cell.cycle e) ∙ eq-eqb c cell.component g)

      earlier : (t c : ℕ) → (eqb t cell.cycle && eqb c cell.component) ≡ false → Before t c cell.cycle (cell.component + 1) → Before t c cell.cycle cell.component
      earlier t c f b = (b.0, λ e. by_component (cases_eq c cell.component) (b.1 e) (not_both t c f e))
        where
          by_component : (c ≡ cell.component) ⊎ (c ≡ cell.component → ⊥) → c < cell.component + 1 → (c ≡ cell.component → ⊥) → c < cell.component
          by_component (inl g) l n = absurd (n g)
          by_component (inr g) l n = omega arith

      runs_now : HoldsRunBefore R new cell.cycle (cell.component + 1)
      runs_now t c there b =
          ap (λ (r : Held State). r.state) (after.cells t c (was_there t c there)) ∙ state_is ((eqb t cell.cycle) && (eqb c cell.component)) (changed && ((eqb t (cell.cycle + 1)) && has (R.near old.slots c) cell.component)) (held_at old.rows t c) _ (run R old.slots t c) new.clock (λ e. let p = and_parts (eqb t cell.cycle) (eqb c cell.component) e in ap (λ n. run R old.slots n cell.component) (sym (eqb-true t cell.cycle p.0)) ∙ ap (λ n. run R old.slots t n) (sym (eqb-true c cell.component p.1))) (λ f. held t c (was_there t c there) (earlier t c f b)) ∙ ap (λ s. Some (run R s t c)) (sym after.slots)
        where
          held : (t c : ℕ) → IsThere R old t c → Before t c cell.cycle cell.component → (held_at old.rows t c).state ≡ Some (run R old.slots t c)
          held t c there b = holds_run_at R laws old table t c there (λ t1 c1 k l. none_before t1 c1 k (omega (arith, b.0), λ e. absurd (omega (arith, b.0)))) (none_before t c there b)

      now : NoneDueBefore R new cell.cycle (cell.component + 1)
      now t c there b =
          ap (λ (r : Held State). r.is_due) (after.cells t c (was_there t c there)) ∙ due_kept ((eqb t cell.cycle) && (eqb c cell.component)) (changed && ((eqb t (cell.cycle + 1)) && has (R.near old.slots c) cell.component)) (held_at old.rows t c) _ new.clock (λ f. (and_right changed _ (and_left (eqb t (cell.cycle + 1)) _ (ne_eqb t (cell.cycle + 1) (λ e. absurd (omega (arith, b.0))))), none_before t c (was_there t c there) (earlier t c f b)))

  -- as `settle_next` does
  pub settles_next : (new : Seen State Slots) (changed : Bool) → IsAfterStore R old new cell.cycle cell.component (current_of R old.slots old.rows cell.cycle cell.component) changed → (changed ≡ true → old.clock < 2 ^ 64 - 1) → SettlesNext R old new t0 c0 cell
  settles_next new changed stores room =
      settles_as new (current_of R old.slots old.rows cell.cycle cell.component) changed runs stores room

  -- and as `give` does, where it stores the result of a claim of that cell
  pub gives_next : (done : Computed State Slots) (changed : Bool) (new : Seen State Slots) → done.claim.cell ≡ cell → done.state ≡ result_for R done.claim → GivesAs R old done (Stored changed) new → SettlesNext R old new t0 c0 cell
  gives_next done changed new of_cell computed given =
      let current = current_from_present R laws old done.claim done.state given.1 computed in
      let here : IsCurrentState R old.slots old.rows cell.cycle cell.component done.state = subst (λ (k : Cell). IsCurrentState R old.slots old.rows k.cycle k.component done.state) of_cell current in
      let stores : IsAfterStore R old new cell.cycle cell.component done.state changed = subst (λ (k : Cell). IsAfterStore R old new k.cycle k.component done.state changed) of_cell given.2 in
      settles_as new done.state changed (computes_run R laws old table cell.cycle cell.component next.there none_earlier done.state here) stores given.3

  pub is_spent : old.clock ≡ 2 ^ 64 - 1 → (held_at old.rows cell.cycle cell.component).state ≢ Some (current_of R old.slots old.rows cell.cycle cell.component) → IsSpent R old t0 c0
  is_spent clock differs = record {
    clock = clock;
    cell = cell;
    next = next;
    differs = λ e. differs (e ∙ ap Some (sym runs));
  }

  pub is_spent_before : (end : ℕ) → cell.cycle < end → old.clock ≡ 2 ^ 64 - 1 → (held_at old.rows cell.cycle cell.component).state ≢ Some (current_of R old.slots old.rows cell.cycle cell.component) → IsSpentBefore R end old t0 c0
  unfolding is_spent
  is_spent_before end h clock differs = (is_spent clock differs, h)
