-- The words of a state that a cell holds.
use Rattle.std.specs.Prelude.{◌≡◌, ℕ, List, [], Option, None, Some}
use Rattle.grid_law.specs.Codec.{IsTold}
use Rattle.machine_cells.specs.declared.state.MachineState.{MachineState}
use Rattle.machine_cells.specs.Words.{words_of}
use Rattle.machine_cells.specs.Codec.{rp3_codec}

-- a told state has these words; where there is no state, there are none
abbrev pub AreWordsOf : List ℕ → Option MachineState → Type 0
AreWordsOf words None = words ≡ []
AreWordsOf words (Some s) = IsTold rp3_codec s × (words_of s ≡ words)
