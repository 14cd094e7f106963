-- Sets of components on the way to a row.
use Rattle.std.specs.Prelude.{◌≡◌, ℕ, Bool, Option, List, length}
use Rattle.change_lists.specs.Changes.{Changes}
use Rattle.cell_states.specs.Readied.{AreAllEach}
use Rattle.cell_states.specs.declared.states.memory.Change.{Change}
use Rattle.cell_states.specs.declared.states.sets.Sets.{Sets}

-- each has a mark for each of so many components
pub record IsWide (count : ℕ) (sets : Sets) : Type 0 where
  pub moved : length sets.moved ≡ count
  pub written : length sets.written ≡ count
  pub unwritten : length sets.unwritten ≡ count

-- all that is on the way to a row has a place for each of so many components, and the sets one for each of a set's
pub record AreAllWide {Memory : Type 0} (count : ℕ) (set : List Bool) (memories : List (Changes Memory)) (ready : List (Option (Change Memory))) (marks others : List Bool) (s : Sets) : Type 0 where
  pub each : AreAllEach count memories ready marks others
  pub sets : IsWide (length set) s
