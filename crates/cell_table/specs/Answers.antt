-- What `give` answers, in the words of the events.
use Rattle.std.specs.Prelude.{◌≡◌, ◌≢◌, ◌↔◌, ℕ, ◌-◌, ◌^◌, ◌<◌, ◌≤◌, true, false, Some, List, ◌∷◌}
use Rattle.grid_law.specs.Rules.{Rules}
use Rattle.cell_table.specs.declared.given.Given.{Given}
use Rattle.cell_table.specs.declared.given.Given.TheVariants.{Gone, NotDue, Overtaken, Foreign, ClockSpent, Memory, Stored}
use Rattle.cell_table.specs.Claims.{Computed}
use Rattle.cell_table.specs.Events.{Event, Stores, Start, horizon_of}
use Rattle.cell_table.specs.Values.{val}
use Rattle.cell_table.specs.Due.{due}
use Rattle.cell_table.specs.Clock.{clock_of}
use Rattle.cell_table.specs.Overtaken.{overtaken}

module _ {State Slots Slot : Type 0} where
  -- the events after a result was given: one more where it was stored
  abbrev pub after_give : Given (Computed State Slots) → Computed State Slots → List (Event State Slots Slot) → List (Event State Slots Slot)
  after_give Gone done h = h
  after_give NotDue done h = h
  after_give Overtaken done h = h
  after_give Foreign done h = h
  after_give (ClockSpent back) done h = h
  after_give (Memory back) done h = h
  after_give (Stored changed) done h = Stores done.claim.cell.cycle done.claim.cell.component done.state changed ∷ h

module _ {State Slots Slot : Type 0} (R : Rules State Slots Slot) (o : Start Slots) where
  -- the cases in which a result whose claim was made at place n gets each answer. No two of them go together:
  -- the first three come exactly where it was overtaken, and Foreign never comes
  abbrev pub AnswersMade : List (Event State Slots Slot) → ℕ → Computed State Slots → Given (Computed State Slots) → Type 0
  AnswersMade h n done Gone =
      (overtaken R o h n done.claim.cell.cycle done.claim.cell.component ≡ true) × (horizon_of o h < done.claim.cell.cycle)
  AnswersMade h n done NotDue =
      (overtaken R o h n done.claim.cell.cycle done.claim.cell.component ≡ true)
      × (done.claim.cell.cycle ≤ horizon_of o h)
      × (due R o h done.claim.cell.cycle done.claim.cell.component ≡ false)
  AnswersMade h n done Overtaken =
      (overtaken R o h n done.claim.cell.cycle done.claim.cell.component ≡ true)
      × (done.claim.cell.cycle ≤ horizon_of o h)
      × (due R o h done.claim.cell.cycle done.claim.cell.component ≡ true)
  AnswersMade h n done Foreign = ⊥
  AnswersMade h n done (ClockSpent back) =
      (overtaken R o h n done.claim.cell.cycle done.claim.cell.component ≡ false)
      × (clock_of R o h ≡ 2 ^ 64 - 1)
      × (val R o h done.claim.cell.cycle done.claim.cell.component ≢ Some done.state)
      × (back ≡ done)
  AnswersMade h n done (Memory back) =
      (overtaken R o h n done.claim.cell.cycle done.claim.cell.component ≡ false)
      × (clock_of R o h < 2 ^ 64 - 1)
      × (val R o h done.claim.cell.cycle done.claim.cell.component ≢ Some done.state)
      × (back ≡ done)
  AnswersMade h n done (Stored changed) =
      (overtaken R o h n done.claim.cell.cycle done.claim.cell.component ≡ false)
      × ((changed ≡ false) ↔ (val R o h done.claim.cell.cycle done.claim.cell.component ≡ Some done.state))
      × (changed ≡ true → clock_of R o h < 2 ^ 64 - 1)
