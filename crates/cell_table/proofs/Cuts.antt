-- A pass that ends before a cycle.
use Rattle.std.proofs.Common.{◌≡◌, ℕ, ◌+◌, ◌<◌, ◌≤◌, arith, ◌⊎◌, inl, inr, false, List, Result, Ok, Err, IfOk, IfErr, OnOk}
use Rattle.std.proofs.lemmas.Bool.{cases_lt}
use Rattle.grid_law.specs.Rules.{Rules, Laws}
use Rattle.cell_table.specs.declared.given.SettleFault.{SettleFault}
use Rattle.cell_table.specs.declared.given.Settled.{Settled}
use Rattle.due_cells.specs.Seen.{Seen, held_at}
use Rattle.cell_table.specs.Cells.{IsThere, AtOrAfter, Before}
use Rattle.cell_table.specs.Events.{Event, Start}
use Rattle.cell_table.specs.Stands.{Stands}
use Rattle.cell_table.specs.Settling.{NoneDueBefore, HoldsRunBefore, IsSettled, IsSettledTo, IsSpent, IsSpentBefore, IsAt, StopsBefore, computed_of, IsClockSpent}
use Rattle.cell_table.specs.Later.{IsLater}
use Rattle.cell_table.specs.Cost.{Settles, SettlesTo, SettlesFirstTo}
use Rattle.cell_table.proofs.Ordering.{before_or_after, before_along}
use Rattle.cell_table.proofs.Costing.{settles_before, stored_before}
use Rattle.cell_table.proofs.Passes.{few_next, settling_along, first_settled}

-- what stands before a cycle is of an earlier one
pub cycle_before : (t c end : ℕ) → Before t c end 0 → t < end
cycle_before t c end b = by_cycle (cases_lt t end)
  where
    by_cycle : (t < end) ⊎ (end ≤ t) → t < end
    by_cycle (inl h) = h
    by_cycle (inr h) = let l = b.1 (omega (arith, b.0, h)) in absurd (omega (arith, l))

pub before_cycle : (t c end : ℕ) → t < end → Before t c end 0
before_cycle t c end h = (omega (arith, h), λ e. absurd (omega (arith, h, e)))

module _ {State Slots Slot : Type 0} (R : Rules State Slots Slot) where
  -- a pass goes on to a cycle before which nothing is left
  pub comes_to : (first v : Seen State Slots) (t c n end : ℕ) → IsAt R first v t c n → NoneDueBefore R v end 0 → HoldsRunBefore R v end 0 → AtOrAfter t c end 0 → IsAt R first v end 0 n
  comes_to first v t c n end at none runs a = record {
    done = at.done;
    settling = settling_along R first v at.done t c end 0 at.settling a;
    number = at.number;
    none_before = none;
    runs_before = runs;
    few = few_next t c end 0 n a at.few at.fits;
    fits = omega arith;
    slots = at.slots;
    horizon = at.horizon;
    rises = at.rises;
    clock = at.clock;
  }

  -- none is due before a cycle, where none is before a cell or between them
  pub none_to : (v : Seen State Slots) (t0 c0 end : ℕ) → NoneDueBefore R v t0 c0 → ((t c : ℕ) → IsThere R v t c → AtOrAfter t0 c0 t c → t < end → (held_at v.rows t c).is_due ≡ false) → NoneDueBefore R v end 0
  none_to v t0 c0 end before rest t c there b = by_place (before_or_after t0 c0 t c)
    where
      by_place : Before t c t0 c0 ⊎ AtOrAfter t0 c0 t c → (held_at v.rows t c).is_due ≡ false
      by_place (inl p) = before t c there p
      by_place (inr p) = rest t c there p (cycle_before t c end b)

module _ {State Slots Slot : Type 0} (R : Rules State Slots Slot) (laws : Laws R) (old now : Seen State Slots) (last end : ℕ) (up_to : end ≤ last + 1) where
  -- where it stops, the cells settled are the first that cost, none of them behind the last cycle
  pub first_settled_to : (t0 c0 n : ℕ) (at : IsAt R old now t0 c0 n) → AtOrAfter t0 c0 end 0 → (o : Start Slots) (h : List (Event State Slots Slot)) → Stands R o old h → SettlesFirstTo R o last h now at.done n
  first_settled_to t0 c0 n at a o h stands = record {
    firsts = first_settled R laws old now t0 c0 n at o h stands;
    up_to = λ t c e. (let b = cycle_before t c end (before_along t c t0 c0 end 0 (stored_before R laws o h old stands at.done now t0 c0 at.settling t c e) a) in omega (arith, b, up_to));
  }

  -- where it comes to the end, they are all of them up to the last cycle
  pub all_settled_to : (n : ℕ) (at : IsAt R old now end 0 n) → ((t : ℕ) → t ≤ last → t ≤ old.horizon → t < end) → (o : Start Slots) (h : List (Event State Slots Slot)) → Stands R o old h → SettlesTo R o last h now at.done n
  all_settled_to n at covers o h stands = record {
    firsts = first_settled_to end 0 n at (omega arith, λ e. omega arith) o h stands;
    all = λ t c there k costs. settles_before R laws o h old stands at.done now end 0 at.settling at.none_before at.runs_before t c there (before_cycle t c end (covers t k (omega (arith, there.cycle, at.horizon)))) costs;
  }

  pub is_settled_to : (n : ℕ) → IsAt R old now end 0 n → ((t : ℕ) → t ≤ last → t ≤ old.horizon → t < end) → IsSettledTo R last now
  is_settled_to n at covers = record {
    none_due = λ t c there k. at.none_before t c there (before_cycle t c end (covers t k (omega (arith, there.cycle, at.horizon))));
    runs = λ t c there k. at.runs_before t c there (before_cycle t c end (covers t k (omega (arith, there.cycle, at.horizon))));
  }

  module _ (covers : (t : ℕ) → t ≤ last → t ≤ old.horizon → t < end) where
    pub answers_all : (r : Result Settled SettleFault) → IfOk r (λ s. IsAt R old now end 0 s.computed) → IfOk r (λ s. (done : List (Event State Slots Slot)) × ((o : Start Slots) (h : List (Event State Slots Slot)) → Stands R o old h → SettlesTo R o last h now done s.computed))
    answers_all (Ok s) at = (at.done, λ o h stands. all_settled_to s.computed at covers o h stands)
    answers_all (Err f) at = tt

    pub answers_settled : (r : Result Settled SettleFault) → IfOk r (λ s. IsAt R old now end 0 s.computed) → OnOk r (IsSettledTo R last now)
    answers_settled (Ok s) at = is_settled_to s.computed at covers
    answers_settled (Err f) at = tt

  pub answers_first : (r : Result Settled SettleFault) → IfErr r (λ f. StopsBefore R end old now (computed_of f)) → IfErr r (λ f. (done : List (Event State Slots Slot)) × ((o : Start Slots) (h : List (Event State Slots Slot)) → Stands R o old h → SettlesFirstTo R o last h now done (computed_of f)))
  answers_first (Ok s) stop = tt
  answers_first (Err f) stop = (stop.at.done, λ o h stands. first_settled_to stop.cycle stop.component (computed_of f) stop.at stop.before o h stands)

  pub answers_spent : (r : Result Settled SettleFault) → IfErr r (λ f. IsClockSpent f → IsSpentBefore R end now 0 0) → IfErr r (λ f. IsClockSpent f → (spent : IsSpent R now 0 0) × (spent.cell.cycle ≤ last))
  answers_spent (Ok s) spent = tt
  answers_spent (Err f) spent = λ k. ((spent k).0, let before = (spent k).1 in omega (arith, before, up_to))

  -- what a pass keeps
  keeps_at : (t c n : ℕ) → IsAt R old now t c n → IsLater old now
  keeps_at t c n at = record { slots = at.slots; horizon = at.horizon; rises = at.rises; clock = at.clock }

  pub keeps : (r : Result Settled SettleFault) → IfOk r (λ s. IsAt R old now end 0 s.computed) → IfErr r (λ f. StopsBefore R end old now (computed_of f)) → IsLater old now
  keeps (Ok s) at stop = keeps_at end 0 s.computed at
  keeps (Err f) at stop = keeps_at stop.cycle stop.component (computed_of f) stop.at

-- of a fault
pub err_along : {X E : Type 0} {P Q : E → Type 0} → ((e : E) → P e → Q e) → (r : Result X E) → IfErr r P → IfErr r Q
err_along f (Ok x) h = h
err_along f (Err e) h = f e h

-- the horizon is the last cycle of all
module _ {State Slots Slot : Type 0} (R : Rules State Slots Slot) (now : Seen State Slots) (last : ℕ) (is_last : now.horizon ≡ last) where
  pub settled_whole : IsSettledTo R last now → IsSettled R now
  settled_whole s = record {
    none_due = λ t c there. s.none_due t c there (omega (arith, there.cycle, is_last));
    runs = λ t c there. s.runs t c there (omega (arith, there.cycle, is_last));
  }

  pub settles_whole : (o : Start Slots) (h done : List (Event State Slots Slot)) (n : ℕ) → SettlesTo R o last h now done n → Settles R o h now done n
  settles_whole o h done n s = record {
    firsts = s.firsts.firsts;
    all = λ t c there costs. s.all t c there (omega (arith, there.cycle, is_last)) costs;
  }

  pub settled_wholly : (r : Result Settled SettleFault) → OnOk r (IsSettledTo R last now) → OnOk r (IsSettled R now)
  settled_wholly (Ok s) k = settled_whole k
  settled_wholly (Err f) k = tt
