-- A pass over the due cells, by cycle and then component.
use Rattle.std.proofs.Common.{◌≡◌, ℕ, ◌+◌, ◌*◌, ◌<◌, ◌≤◌, ◌∙◌, subst, refl, arith, ◌⊎◌, inl, inr, Option, None, Some, IfNone, IfSome, List, [], ◌∷◌, Bool, true, false, cond, ◌-◌, ◌^◌}
use Rattle.std.proofs.lemmas.Bool.{cases_lt}
use Rattle.cell_states.specs.declared.cell.Cell.{Cell}
use Rattle.grid_law.specs.Rules.{Rules, Laws}
use Rattle.due_cells.specs.Seen.{Seen, held_at}
use Rattle.cell_table.specs.Cells.{IsThere, AtOrAfter, Before}
use Rattle.cell_table.specs.Events.{Event, Edits, Claims, Stores, Start}
use Rattle.cell_table.specs.Stands.{Stands}
use Rattle.grid_law.specs.Run.{run}
use Rattle.cell_table.specs.Consistent.{IsTable}
use Rattle.cell_table.proofs.Runs.{holds_run_at}
use Rattle.cell_table.specs.Settling.{NoneDueBefore, IsNextDue, HoldsRunBefore, IsSettled, IsSpent, IsSpentBefore, Settling, SettlesNext, IsAt}
use Rattle.cell_table.specs.Advances.{IsFurther}
use Rattle.cell_table.specs.Cost.{Settles, SettlesFirst}
use Rattle.cell_table.proofs.Ordering.{before_or_after, before_along, before_next}
use Rattle.cell_table.proofs.Costing.{settles_first, settles_all}

none_first : (t c : ℕ) → Before t c 0 0 → ⊥
none_first t c b = let l = b.1 (omega (arith, b.0)) in omega arith

-- fewer cells were computed than stand before the next one
pub few_next : (t0 c0 t c computed : ℕ) → AtOrAfter t0 c0 t c → computed ≤ 4294967296 * t0 + c0 → c0 < 4294967296 → computed ≤ 4294967296 * t + c
few_next t0 c0 t c computed a few fits = by_cycle (cases_lt t0 t)
  where
    by_cycle : (t0 < t) ⊎ (t ≤ t0) → computed ≤ 4294967296 * t + c
    by_cycle (inl l) = omega arith
    by_cycle (inr l) = let same : t0 ≡ t = omega (arith, a.0) in let k = a.1 same in omega arith

-- a later cycle is further on, and so is the beginning of one that stands behind a cell of a cycle at or after
pub further_cycle : (horizon t0 c0 t : ℕ) → t0 < t → t ≤ horizon + 1 → IsFurther horizon t0 c0 t 0
further_cycle horizon t0 c0 t later within = ((omega (arith, later), λ e. absurd (omega (arith, e, later))), within)

pub further_on : (horizon t0 c0 s t c : ℕ) → c ≡ 0 → t0 ≤ s → IsFurther horizon s 0 t c → IsFurther horizon t0 c0 t c
further_on horizon t0 c0 s t c begins ahead f = by_cycle (cases_lt t0 t)
  where
    by_cycle : (t0 < t) ⊎ (t ≤ t0) → IsFurther horizon t0 c0 t c
    by_cycle (inl l) = ((omega (arith, l), λ e. absurd (omega (arith, e, l))), f.1)
    by_cycle (inr l) = let k = f.0.1 (omega (arith, ahead, l, f.0.0)) in absurd (omega (arith, k, begins))

pub of_some : {X : Type 0} (P : X → Type 0) (r : Option X) (x : X) → r ≡ Some x → IfSome r P → P x
of_some P None x e h = cc
of_some P (Some y) x e h = let f : y ≡ x = cc in subst P f h

pub of_none : {X : Type 0} (P : Type 0) (r : Option X) → r ≡ None → IfNone r P → P
of_none P None e h = h
of_none P (Some y) e h = cc

-- the clock doesn't fall, and stays at its last value
clock_rises : (old new : ℕ) (changed : Bool) → new ≡ cond changed (old + 1) old → old ≤ new
clock_rises old new true is = omega (arith, is)
clock_rises old new false is = omega (arith, is)

clock_stays : (old new : ℕ) (changed : Bool) → new ≡ cond changed (old + 1) old → (changed ≡ true → old < 2 ^ 64 - 1) → old ≡ 2 ^ 64 - 1 → new ≡ 2 ^ 64 - 1
clock_stays old new true is room last = let b = room refl in absurd (omega arith)
clock_stays old new false is room last = is ∙ last

module _ {State Slots Slot : Type 0} (R : Rules State Slots Slot) where
  -- it begins before all cells
  pub begins : (old : Seen State Slots) → IsAt R old old 0 0 0
  begins old = record {
    done = [];
    settling = refl;
    number = refl;
    none_before = λ t c there b. absurd (none_first t c b);
    runs_before = λ t c there b. absurd (none_first t c b);
    few = omega arith;
    fits = omega arith;
    slots = refl;
    horizon = refl;
    rises = omega arith;
    clock = λ last. last;
  }

  pub settling_along : (old v : Seen State Slots) (done : List (Event State Slots Slot)) (t0 c0 t c : ℕ) → Settling R old done v t0 c0 → AtOrAfter t0 c0 t c → Settling R old done v t c
  settling_along old v [] t0 c0 t c e a = e
  settling_along old v (Edits next listed to ∷ done) t0 c0 t c e a = e
  settling_along old v (Claims t1 c1 ∷ done) t0 c0 t c e a = e
  settling_along old v (Stores t1 c1 x changed ∷ done) t0 c0 t c e a = (e.0, e.1, e.2, before_along t1 c1 t0 c0 t c e.3 a)

  -- and goes on behind the next cell that is settled
  pub goes_on : (old now next : Seen State Slots) (t0 c0 computed : ℕ) (cell : Cell) → IsAt R old now t0 c0 computed → SettlesNext R now next t0 c0 cell → cell.component + 1 < 4294967296 → IsAt R old next cell.cycle (cell.component + 1) (computed + 1)
  goes_on old now next t0 c0 computed cell is_at s fits = record {
    done = Stores cell.cycle cell.component (run R now.slots cell.cycle cell.component) s.changed ∷ is_at.done;
    settling = (now, settling_along old now is_at.done t0 c0 cell.cycle cell.component is_at.settling s.after, s.settled, before_next cell.cycle cell.component);
    number = omega (arith, is_at.number);
    none_before = s.none_before;
    runs_before = s.runs_before;
    few = omega (arith, few_next t0 c0 cell.cycle cell.component computed s.after is_at.few is_at.fits);
    fits = fits;
    slots = s.settled.after.slots ∙ is_at.slots;
    horizon = s.settled.after.horizon ∙ is_at.horizon;
    rises = omega (arith, is_at.rises, clock_rises now.clock next.clock s.changed s.settled.after.clock);
    clock = λ last. clock_stays now.clock next.clock s.changed s.settled.after.clock s.room (is_at.clock last);
  }

  -- where none before a cell is due, the first due cell from there on is the first of all
  pub spent_first : (v : Seen State Slots) (t0 c0 : ℕ) → NoneDueBefore R v t0 c0 → IsSpent R v t0 c0 → IsSpent R v 0 0
  spent_first v t0 c0 none spent = record {
    clock = spent.clock;
    cell = spent.cell;
    next = record {
      there = spent.next.there;
      due = spent.next.due;
      after = (omega arith, λ e. omega arith);
      none_between = λ t c there a b. by_place t c there b (before_or_after t0 c0 t c);
    };
    differs = spent.differs;
  }
    where
      by_place : (t c : ℕ) → IsThere R v t c → Before t c spent.cell.cycle spent.cell.component → Before t c t0 c0 ⊎ AtOrAfter t0 c0 t c → (held_at v.rows t c).is_due ≡ false
      by_place t c there b (inl before) = none t c there before
      by_place t c there b (inr after) = spent.next.none_between t c there after b

  pub spent_before : (v : Seen State Slots) (t0 c0 end : ℕ) → NoneDueBefore R v t0 c0 → IsSpentBefore R end v t0 c0 → IsSpentBefore R end v 0 0
  unfolding spent_first
  spent_before v t0 c0 end none spent = (spent_first v t0 c0 none spent.0, spent.1)

module _ {State Slots Slot : Type 0} (R : Rules State Slots Slot) (laws : Laws R) (old now : Seen State Slots) (t0 c0 computed : ℕ) (is_at : IsAt R old now t0 c0 computed) where
  -- where it stops, the cells settled are the first that cost
  pub first_settled : (o : Start Slots) (h : List (Event State Slots Slot)) → Stands R o old h → SettlesFirst R o h now is_at.done computed
  first_settled o h stands =
      subst (SettlesFirst R o h now is_at.done) is_at.number (settles_first R laws o h old stands is_at.done now t0 c0 is_at.settling is_at.none_before is_at.runs_before)

  -- where nothing is left, they are all of them
  pub all_settled : IsSettled R now → (o : Start Slots) (h : List (Event State Slots Slot)) → Stands R o old h → Settles R o h now is_at.done computed
  all_settled settled o h stands =
      subst (Settles R o h now is_at.done) is_at.number (settles_all R laws o h old stands is_at.done now t0 c0 is_at.settling is_at.none_before is_at.runs_before settled)

-- a pass can begin at a cycle before which nothing is due, and go on at a later one before which nothing is
module _ {State Slots Slot : Type 0} (R : Rules State Slots Slot) (laws : Laws R) (v : Seen State Slots) (table : IsTable R v.slots v.horizon v.rows) (t0 : ℕ) (none : NoneDueBefore R v t0 0) where
  pub runs_here : HoldsRunBefore R v t0 0
  runs_here t c there b =
      holds_run_at R laws v table t c there (λ t1 c1 k l. none t1 c1 k (omega (arith, b.0, l), λ e. absurd (omega (arith, b.0, l, e)))) (none t c there b)

  pub begins_at : t0 < 4294967296 → IsAt R v v t0 0 0
  begins_at small = record {
    done = [];
    settling = refl;
    number = refl;
    none_before = none;
    runs_before = runs_here;
    few = omega arith;
    fits = omega arith;
    slots = refl;
    horizon = refl;
    rises = omega arith;
    clock = λ last. last;
  }

  pub moves_on : (first : Seen State Slots) (t c n : ℕ) → IsAt R first v t c n → t < t0 → IsAt R first v t0 0 n
  moves_on first t c n at h = record {
    done = at.done;
    settling = settling_along R first v at.done t c t0 0 at.settling (omega (arith, h), λ e. absurd (omega (arith, h, e)));
    number = at.number;
    none_before = none;
    runs_before = runs_here;
    few = omega (arith, at.few, at.fits, h);
    fits = omega arith;
    slots = at.slots;
    horizon = at.horizon;
    rises = at.rises;
    clock = at.clock;
  }

-- where the first due cell from a cell on stands at a cycle, nothing is due before that
pub none_till : {State Slots Slot : Type 0} (R : Rules State Slots Slot) (v : Seen State Slots) (t c : ℕ) (cell : Cell) → NoneDueBefore R v t c → IsNextDue R v t c cell → NoneDueBefore R v cell.cycle 0
none_till R v t c cell none next t1 c1 there b = by_place (before_or_after t c t1 c1)
  where
    by_place : Before t1 c1 t c ⊎ AtOrAfter t c t1 c1 → (held_at v.rows t1 c1).is_due ≡ false
    by_place (inl p) = none t1 c1 there p
    by_place (inr p) = next.none_between t1 c1 there p (before_along t1 c1 cell.cycle 0 cell.cycle cell.component b (omega arith, λ e. omega arith))

-- a pass that goes on comes nearer to its end
pub nearer : (horizon t0 c0 t c : ℕ) → IsFurther horizon t0 c0 t c → c0 < 4294967296 → 4294967296 * (horizon + 1 - t) + (4294967296 - c) < 4294967296 * (horizon + 1 - t0) + (4294967296 - c0)
nearer horizon t0 c0 t c further fits = by_cycle (cases_lt t0 t)
  where
    by_cycle : (t0 < t) ⊎ (t ≤ t0) → 4294967296 * (horizon + 1 - t) + (4294967296 - c) < 4294967296 * (horizon + 1 - t0) + (4294967296 - c0)
    by_cycle (inl h) = omega (arith, h, further.1, fits)
    by_cycle (inr h) = let e : t0 ≡ t = omega (arith, h, further.0.0) in let k = further.0.1 e in omega (arith, e, k, fits)

-- a pass comes to the cycle of the first due cell from there on, where it is a later one, or the pass stands before all cells of it
pub comes_ahead : {State Slots Slot : Type 0} (R : Rules State Slots Slot) (laws : Laws R) (v : Seen State Slots) → IsTable R v.slots v.horizon v.rows → (t c : ℕ) (cell : Cell) → NoneDueBefore R v t c → IsNextDue R v t c cell → (t < cell.cycle) ⊎ ((cell.cycle ≤ t) × (c ≡ 0)) → (first : Seen State Slots) (n : ℕ) → IsAt R first v t c n → IsAt R first v cell.cycle 0 n
comes_ahead R laws v table t c cell none next (inl h) first n at = moves_on R laws v table cell.cycle (none_till R v t c cell none next) first t c n at h
comes_ahead R laws v table t c cell none next (inr e) first n at =
    let here : t ≡ cell.cycle = omega (arith, e.0, next.after.0) in
    subst (λ u. IsAt R first v u 0 n) here (subst (λ k. IsAt R first v t k n) e.1 at)
