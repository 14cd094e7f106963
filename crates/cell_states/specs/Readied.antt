-- What is ready for each component, and which are marked for it.
use Rattle.std.specs.Prelude.{◌≡◌, ◌↔◌, ℕ, Bool, true, false, Option, None, List, length, slice_index_or}
use Rattle.change_lists.specs.Changes.{Changes, changes_at, list_at, held_at as memory_at}
use Rattle.cell_states.specs.Filling.{is_awake}
use Rattle.cell_states.specs.Ready.{value_in, IsReady}
use Rattle.cell_states.specs.declared.states.memory.Change.{Change}

module _ {Memory : Type 0} where
  -- for each of so many components there is a list of memories, a place for what is ready, and a mark
  pub record AreEach (count : ℕ) (memories : List (Changes Memory)) (ready : List (Option (Change Memory))) (marks : List Bool) : Type 0 where
    pub lists : length memories ≡ count
    pub places : length ready ≡ count
    pub marked : length marks ≡ count

  -- and one mark more
  pub record AreAllEach (count : ℕ) (memories : List (Changes Memory)) (ready : List (Option (Change Memory))) (marks others : List Bool) : Type 0 where
    pub each : AreEach count memories ready marks
    pub other : length others ≡ count

  -- a component is marked just where its cell has another memory than this, and then this one is ready
  pub record IsReadied (memories : List (Changes Memory)) (ready : List (Option (Change Memory))) (marks : List Bool) (t c : ℕ) (value : Option Memory) : Type 0 where
    pub marked : (is_awake marks c ≡ false) ↔ (memory_at memories c t ≡ value)
    pub is_ready : is_awake marks c ≡ true → IsReady memories c t (slice_index_or ready c None)
    pub is_value : is_awake marks c ≡ true → value_in memories c t (slice_index_or ready c None) ≡ value

  -- no memory is another; what is ready, and the marks, are as they were for all components but one
  pub record KeepsOthers (c : ℕ) (memories memories1 : List (Changes Memory)) (ready ready1 : List (Option (Change Memory))) (marks marks1 : List Bool) : Type 0 where
    pub same : (d : ℕ) → list_at memories1 d ≡ list_at memories d
    pub lists : (d : ℕ) → (d ≡ c → ⊥) → changes_at memories1 d ≡ changes_at memories d
    pub places : (d : ℕ) → (d ≡ c → ⊥) → slice_index_or ready1 d None ≡ slice_index_or ready d None
    pub marked : (d : ℕ) → (d ≡ c → ⊥) → is_awake marks1 d ≡ is_awake marks d
