-- Which cells must be computed to settle a table, and what settling stores.
use Rattle.std.specs.Prelude.{◌≡◌, ◌≢◌, ◌⊎◌, ℕ, ◌+◌, ◌<◌, ◌≤◌, Bool, true, Some, List, [], ◌∷◌, ◌++◌, length}
use Rattle.std.specs.List.{list_any}
use Rattle.grid_law.specs.Rules.{Rules}
use Rattle.due_cells.specs.Seen.{Seen}
use Rattle.cell_table.specs.Cells.{IsThere, Before}
use Rattle.cell_states.specs.Near.{has}
use Rattle.cell_table.specs.Events.{Event, Edits, Claims, Stores, Start, slots_of}
use Rattle.cell_table.specs.Values.{val}
use Rattle.cell_table.specs.Due.{due, stores}
use Rattle.cell_table.specs.Reads.{reads_any}
use Rattle.grid_law.specs.Run.{run, run_inputs}
use Rattle.cell_table.specs.Stands.{Stands}

module _ {State Slots Slot : Type 0} where
  -- some of these events stores the cell
  abbrev pub is_stored : List (Event State Slots Slot) → ℕ → ℕ → Bool
  is_stored done t c = list_any (λ e. stores e t c) done

  -- these events are stores, each of a cell after those stored before it, by cycle and then component
  abbrev pub IsInOrder : List (Event State Slots Slot) → Type 0
  IsInOrder [] = Unit {0}
  IsInOrder (Edits next listed to ∷ done) = ⊥
  IsInOrder (Claims t c ∷ done) = ⊥
  IsInOrder (Stores t c x changed ∷ done) =
      ((t1 c1 : ℕ) → is_stored done t1 c1 ≡ true → Before t1 c1 t c) × IsInOrder done

module _ {State Slots Slot : Type 0} (R : Rules State Slots Slot) (o : Start Slots) where
  -- a near cell one cycle earlier whose value isn't that of the run
  pub record HasStaleNear (h : List (Event State Slots Slot)) (t c : ℕ) : Type 0 where
    pub earlier : ℕ
    pub one_before : t ≡ earlier + 1
    pub component : ℕ
    pub is_near : has (R.near (slots_of o h) c) component ≡ true
    pub stale : val R o h earlier component ≢ Some (run R (slots_of o h) earlier component)

  -- the cell costs a computation: it is due, or has such a near cell
  abbrev pub Costs : List (Event State Slots Slot) → ℕ → ℕ → Type 0
  Costs h t c = (due R o h t c ≡ true) ⊎ HasStaleNear h t c

  -- the table stands for h and for these stores after it, which are n, in order, and of the first cells that cost:
  -- each cell stored is there and costs, and each that costs was stored or comes after every cell stored
  pub record SettlesFirst (h : List (Event State Slots Slot)) (v : Seen State Slots) (done : List (Event State Slots Slot)) (n : ℕ) : Type 0 where
    pub stands : Stands R o v (done ++ h)
    pub in_order : IsInOrder done
    pub number : length done ≡ n
    pub only : (t c : ℕ) → is_stored done t c ≡ true → IsThere R v t c × Costs h t c
    pub first : (t c : ℕ) → IsThere R v t c → Costs h t c → (is_stored done t c ≡ true) ⊎ ((t1 c1 : ℕ) → is_stored done t1 c1 ≡ true → Before t1 c1 t c)

  -- and these are all of them
  pub record Settles (h : List (Event State Slots Slot)) (v : Seen State Slots) (done : List (Event State Slots Slot)) (n : ℕ) : Type 0 where
    pub firsts : SettlesFirst h v done n
    pub all : (t c : ℕ) → IsThere R v t c → Costs h t c → is_stored done t c ≡ true

  -- the first of the cells that cost, and none of them stands behind a cycle
  pub record SettlesFirstTo (last : ℕ) (h : List (Event State Slots Slot)) (v : Seen State Slots) (done : List (Event State Slots Slot)) (n : ℕ) : Type 0 where
    pub firsts : SettlesFirst h v done n
    pub up_to : (t c : ℕ) → is_stored done t c ≡ true → t ≤ last

  -- and these are all of them up to that cycle
  pub record SettlesTo (last : ℕ) (h : List (Event State Slots Slot)) (v : Seen State Slots) (done : List (Event State Slots Slot)) (n : ℕ) : Type 0 where
    pub firsts : SettlesFirstTo last h v done n
    pub all : (t c : ℕ) → IsThere R v t c → t ≤ last → Costs h t c → is_stored done t c ≡ true

module _ {State Slots Slot : Type 0} (R : Rules State Slots Slot) where
  -- a near cell one cycle earlier that differs between the two runs
  pub record HasOtherNear (s next : Slots) (t c : ℕ) : Type 0 where
    pub earlier : ℕ
    pub one_before : t ≡ earlier + 1
    pub component : ℕ
    pub is_near : has (R.near s c) component ≡ true
    pub differs : run R s earlier component ≢ run R next earlier component

  -- the cell is past the earlier horizon, reads in the run a slot that was edited, or has such a near cell
  abbrev pub CostsAnEdit : Slots → Slots → List Slot → ℕ → ℕ → ℕ → Type 0
  CostsAnEdit s next listed before t c =
      (before < t) ⊎ ((reads_any R s c listed (Some (run_inputs R s t c)) ≡ true) ⊎ HasOtherNear s next t c)
