-- How a pass over the due cells goes on.
use Rattle.std.specs.Prelude.{◌≡◌, ℕ, ◌+◌, ◌≤◌, List}
use Rattle.grid_law.specs.Rules.{Rules}
use Rattle.due_cells.specs.Seen.{Seen}
use Rattle.cell_table.specs.Cells.{AtOrAfter}
use Rattle.cell_states.specs.declared.cell.CellRange.{CellRange}
use Rattle.cell_table.specs.Settling.{IsAt}
use Rattle.cell_table.specs.Passing.{HoldsBut}

-- the second cell stands behind the first, at the latest one cycle past the horizon
abbrev pub IsFurther : ℕ → ℕ → ℕ → ℕ → ℕ → Type 0
IsFurther horizon t0 c0 t c = AtOrAfter t0 (c0 + 1) t c × (t ≤ horizon + 1)

module _ {State Slots Slot : Type 0} (R : Rules State Slots Slot) where
  -- a pass that has come to one cell comes to another, behind it and at most at the beginning of a cycle, with so many more computed
  pub record Advances (end : ℕ) (old now : Seen State Slots) (t0 c0 t c more : ℕ) : Type 0 where
    pub on : (first : Seen State Slots) (computed : ℕ) → IsAt R first old t0 c0 computed → IsAt R first now t c (computed + more)
    pub further : IsFurther old.horizon t0 c0 t c
    pub before : AtOrAfter t c end 0

  -- it comes from the beginning of a cycle to that of another one, and only cells of the ranges may hold other states then
  pub record PassesCycles (end : ℕ) (old now : Seen State Slots) (t0 t c more : ℕ) (ranges : List CellRange) : Type 0 where
    pub on : Advances end old now t0 0 t c more
    pub begins : c ≡ 0
    pub but : HoldsBut R old now ranges
