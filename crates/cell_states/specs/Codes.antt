-- A cell's words and what stands beside them, and the state that they are.
use Rattle.std.specs.Prelude.{◌≡◌, ℕ, Option, None, Some, List, [], ◌∷◌, slice_index_or}
use Rattle.grid_law.specs.Codec.{Codec, IsTold}

module _ {State Memory : Type 0} (C : Codec State Memory) where
  -- the state of a cell with these words, where this memory or none stands; no words, no state
  abbrev pub state_of : List ℕ → Option Memory → Option State
  state_of [] memory = None
  state_of (word ∷ words) memory = Some (C.state (word ∷ words) memory)

  -- a state has these words and this memory or none
  pub record IsCodeOf (words : List ℕ) (memory : Option Memory) (x : State) : Type 0 where
    pub words_are : C.words x ≡ words
    pub memory_is : C.memory x ≡ memory

  -- the words are none, or the words and the memory are those of the state that is read from them
  abbrev pub IsCode : List ℕ → Option Memory → Type 0
  IsCode [] memory = Unit {0}
  IsCode (word ∷ words) memory = IsCodeOf (word ∷ words) memory (C.state (word ∷ words) memory)

-- what nothing at all is the code of: a state without a memory, whose first word is 0, and which they tell
pub record TellsNothing {State Memory : Type 0} (C : Codec State Memory) : Type 0 where
  pub first : slice_index_or (C.words (C.state [] None)) 0 0 ≡ 0
  pub none : C.memory (C.state [] None) ≡ None
  pub told : IsTold C (C.state [] None)
