-- What the cells of a set of components are to get at a cycle, as it is found one after another.
use Rattle.std.specs.Prelude.{◌≡◌, ℕ, ◌≤◌, Bool, true, false, Option, None, List, length}
use Rattle.grid_law.specs.Codec.{Codec, IsTold}
use Rattle.change_rows.specs.Cells.{Held, found, end_of}
use Rattle.change_lists.specs.Changes.{Changes}
use Rattle.cell_states.specs.Filling.{is_awake}
use Rattle.cell_states.specs.NextWords.{IsDrafted}
use Rattle.cell_states.specs.Readied.{AreEach, IsReadied, KeepsOthers}
use Rattle.cell_states.specs.declared.states.memory.Change.{Change}

-- of the draft, the memories and what is ready only that of one component may be other than it was
pub record FindsOne {Memory : Type 0} (c : ℕ) (draft draft1 : List Held) (memories memories1 : List (Changes Memory)) (ready ready1 : List (Option (Change Memory))) (marks marks1 : List Bool) : Type 0 where
  pub words : (d : ℕ) → (d ≡ c → ⊥) → found draft1 d ≡ found draft d
  pub others : KeepsOthers c memories memories1 ready ready1 marks marks1

-- something was found of the first n of so many components alone
pub record IsFoundTo {Memory : Type 0} (count : ℕ) (draft : List Held) (memories : List (Changes Memory)) (ready : List (Option (Change Memory))) (marks : List Bool) (n : ℕ) : Type 0 where
  pub each : AreEach count memories ready marks
  pub drafted : end_of draft ≤ n
  pub unmarked : (c : ℕ) → n ≤ c → is_awake marks c ≡ false

module _ {State Memory : Type 0} (C : Codec State Memory) (rows : List (List (List ℕ))) (draft : List Held) (memories : List (Changes Memory)) (ready : List (Option (Change Memory))) (marks : List Bool) (t : ℕ) where
  -- a component gets this state: the draft has its words where the cell has other ones, and its memory is ready where that is another
  pub record IsFound (c : ℕ) (x : State) : Type 0 where
    pub told : IsTold C x
    pub words : IsDrafted rows draft t c (C.words x)
    pub memory : IsReadied memories ready marks t c (C.memory x)

  -- so do all of a set, and nothing is found of others
  pub record AreFound (set : List Bool) (states : ℕ → State) : Type 0 where
    pub within : end_of draft ≤ length set
    pub each : (c : ℕ) → is_awake set c ≡ true → IsFound c (states c)
    pub no_words : (c : ℕ) → is_awake set c ≡ false → found draft c ≡ None
    pub unmarked : (c : ℕ) → is_awake set c ≡ false → is_awake marks c ≡ false
