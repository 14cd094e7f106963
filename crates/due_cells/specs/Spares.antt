-- What settling takes beside a table.
use Rattle.std.specs.Prelude.{◌≡◌, ℕ, ◌<◌, Bool, true, false, IfSome, Option, Some, List, length}
use Rattle.grid_law.specs.Rules.{Rules}
use Rattle.grid_law.specs.Codec.{Codec}
use Rattle.grid_law.specs.Run.{run}
use Rattle.due_cells.specs.Seen.{Held, Seen, held_at}
use Rattle.cell_states.specs.Filling.{is_awake}
use Rattle.cell_states.specs.Put.{AreMarks}
use Rattle.cell_states.specs.Versions.{any_changes}
use Rattle.due_cells.specs.WholeRows.{HoldsRow}
use Rattle.due_cells.specs.Beside.{AreBeside}
use Rattle.due_cells.specs.declared.along.Along.{Along}
use Rattle.due_cells.specs.declared.beside.Beside.{Beside}
use Rattle.due_cells.specs.declared.spare.Spare.{Spare}

-- marks of all components: of those that change, and of those of them that got other words
pub record AreWorded (count : ℕ) (changes worded : List Bool) : Type 0 where
  pub marks : AreMarks count changes worded
  pub among : (c : ℕ) → is_awake worded c ≡ true → is_awake changes c ≡ true

-- the marks are of all components
pub record IsWide (count : ℕ) (spare : Spare) : Type 0 where
  pub changes : length spare.changes ≡ count
  pub reached : length spare.reached ≡ count
  pub worded : length spare.worded ≡ count
  pub left : length spare.left ≡ count
  pub known : length spare.known ≡ count

module _ {State Slots Slot : Type 0} (R : Rules State Slots Slot) where
  -- a row that goes along holds the run at its cycle, and its marks are of all components
  pub record GoesAlong {Whole : Type 0} (stands : Whole → Slots → Type 0) (state : Whole → ℕ → State) (s : Slots) (a : Along Whole) : Type 0 where
    pub holds : HoldsRow R stands state s a.row a.cycle
    pub width : length a.changed ≡ R.components s

  -- the rows that are kept stand for these slots, and one that goes along holds the run
  pub record AreRowsOf {Memory Whole : Type 0} (C : Codec State Memory) (stands : Whole → Slots → Type 0) (state : Whole → ℕ → State) (s : Slots) (row : Option (Along Whole)) (rows : Beside Whole) : Type 0 where
    pub along : IfSome row (GoesAlong stands state s)
    pub beside : AreBeside R C stands state s rows

  -- where the rows that are kept aren't forgotten, they stand for these slots, one holds what is known of it, and the one that goes along
  -- holds the run
  pub record AreKept {Memory Whole : Type 0} (C : Codec State Memory) (stands : Whole → Slots → Type 0) (state : Whole → ℕ → State) (s : Slots) (beside : Beside Whole) : Type 0 where
    pub rows : beside.forgotten ≡ false → AreBeside R C stands state s beside
    pub along : beside.forgotten ≡ false → IfSome beside.along (GoesAlong stands state s)

  -- the cell isn't due, and a cycle before neither its own component changes nor has one near it other words
  pub record IsLeftOut (s : Slots) (cells : List (List (Held State))) (t : ℕ) (changes worded : List Bool) (c : ℕ) : Type 0 where
    pub there : c < R.components s
    pub settled : (held_at cells t c).is_due ≡ false
    pub own : is_awake changes c ≡ false
    pub near : any_changes worded (R.near s c) (R.components s) ≡ false

  -- the marks are of all components, and the cells that are known, if any are, hold the run
  pub record IsSpare (v : Seen State Slots) (spare : Spare) : Type 0 where
    pub wide : IsWide (R.components v.slots) spare
    pub runs : (c : ℕ) → 0 < spare.known_at → is_awake spare.known c ≡ true → (held_at v.rows spare.known_at c).state ≡ Some (run R v.slots spare.known_at c)

  -- the workspace of a settling: marks beside the table, and where one goes along, a row that holds the run; the rows that are kept stand for
  -- the table's slots
  pub record IsWorkspace {Memory Whole : Type 0} (C : Codec State Memory) (stands : Whole → Slots → Type 0) (state : Whole → ℕ → State) (v : Seen State Slots) (marks : Spare) (row : Option (Along Whole)) (rows : Beside Whole) : Type 0 where
    pub spare : IsSpare v marks
    pub along : IfSome row (GoesAlong stands state v.slots)
    pub beside : AreBeside R C stands state v.slots rows
