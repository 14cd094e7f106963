-- What an edit of a bench is answered, and what it does.
use Rattle.std.specs.Prelude.{◌≡◌, ℕ, ◌-◌, ◌^◌, ◌==◌, if◌then◌else◌, List, [], ◌∷◌, ◌++◌, Result, Ok, Err}
use Rattle.cell_table.specs.Touches.{IsAfterTouch}
use Rattle.machine_cells.specs.GridRules.{rp3_rules}
use Rattle.project_book.specs.Slots.{Touches}
use Rattle.project_book.specs.Edits.{accepts, edited}
use Rattle.project_book.specs.declared.edit.Edit.{Edit}
use Rattle.project_book.specs.declared.slot.Slot.{Slot}
use Rattle.project_book.specs.declared.fault.EditFault.{EditFault}
use Rattle.project_book.specs.declared.fault.EditFault.TheVariants.{ClockSpent, Memory}
use Rattle.bench_core.specs.Shown.{Shown, project_of, version_of}

-- Ok, or ClockSpent where the clock is at its last value
abbrev pub unless_spent : ℕ → Result (Unit {0}) EditFault → Result (Unit {0}) EditFault
unless_spent clock (Err fault) = Err fault
unless_spent clock (Ok u) = if clock == 2 ^ 64 - 1 then Err ClockSpent else Ok tt

-- the verdict on an edit, want of memory aside: the first fault of `accepts`, then that of the clock
abbrev pub admits : Shown → Edit → Result (Unit {0}) EditFault
admits b e = unless_spent b.table.clock (accepts (project_of b) (version_of b) e)

-- what a bench refuses an edit with: its verdict; want of memory where the verdict is Ok, and nowhere else
abbrev pub Refuses : Shown → Edit → EditFault → Type 0
Refuses b e Memory = admits b e ≡ Ok tt
Refuses b e fault = admits b e ≡ Err fault

-- the edit was noted, the project is the edited one, and the table was touched for the slots that differ
pub record IsAfterEdit (old new : Shown) (author : ℕ) (e : Edit) : Type 0 where
  pub journal : new.journal ≡ old.journal ++ record { author = author; edit = e } ∷ []
  pub listed : List Slot
  pub touches : Touches (project_of old) (edited (project_of old) e) listed
  pub table : IsAfterTouch rp3_rules old.table new.table (edited (project_of old) e) listed (edited (project_of old) e).horizon
