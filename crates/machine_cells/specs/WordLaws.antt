-- What words say of states.
use Rattle.std.specs.Prelude.{◌≡◌, ◌^◌, ◌<◌, ◌↔◌, length, All}
use Rattle.machine_cells.specs.declared.state.MachineState.{MachineState}
use Rattle.state_words.specs.Words.{length_of}
use Rattle.machine_cells.specs.Words.{head_of, words_of, memory_of, with_memory, IsState}

-- states of the same words are the same but for the words of a module's memory
abbrev pub WordsTell : Type 0
WordsTell = (s u : MachineState) → IsState s → IsState u → (words_of s ≡ words_of u) ↔ (with_memory (memory_of u) s ≡ u)

-- so where that is the same too, states are the same exactly where their words are
abbrev pub WordsAreStates : Type 0
WordsAreStates = (s u : MachineState) → IsState s → IsState u → memory_of s ≡ memory_of u → (words_of s ≡ words_of u) ↔ (s ≡ u)

-- each word has 64 bits
abbrev pub WordsAreWords : Type 0
WordsAreWords = (s : MachineState) → IsState s → All (λ w. w < 2 ^ 64) (words_of s)

-- there are as many of them as the head says, which are never none
pub record HasLength (s : MachineState) : Type 0 where
  pub exact : length (words_of s) ≡ length_of (head_of s)
  pub some : 0 < length (words_of s)

abbrev pub HeadsTellLengths : Type 0
HeadsTellLengths = (s : MachineState) → IsState s → HasLength s
