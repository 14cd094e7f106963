-- The states of components as words, and the state that words are.
use Rattle.std.specs.Prelude.{ℕ, ◌%◌, ◌^◌, ◌==◌, if◌then◌else◌, List, [], ◌∷◌, drop, slice_index}
use Rattle.mem_module.specs.declared.words.Stored.{Stored}
use Rattle.machine_cells.specs.declared.state.MachineState.{MachineState}
use Rattle.machine_cells.specs.declared.state.MachineState.TheVariants.{Proc, Module, Low, Comb}
use Rattle.state_words.specs.Words.{proc_head, module_head, low_head, comb_head, proc_body, module_body, low_body, comb_body}
use Rattle.state_words.specs.Fits.{IsProc, IsModule, IsLow, IsComb}
use Rattle.state_words.specs.Reading.{proc_from, module_from, low_from, comb_from}

-- the head of a state
abbrev pub head_of : MachineState → ℕ
head_of (Proc s) = proc_head s
head_of (Module s) = module_head s
head_of (Low s) = low_head s
head_of (Comb s) = comb_head s

abbrev pub body_of : MachineState → List ℕ
body_of (Proc s) = proc_body s
body_of (Module s) = module_body s
body_of (Low s) = low_body s
body_of (Comb s) = comb_body s

-- the words of a state
abbrev pub words_of : MachineState → List ℕ
words_of s = head_of s ∷ body_of s

-- a module's words of memory; of others none
abbrev pub memory_of : MachineState → List Stored
memory_of (Module s) = s.words
memory_of s = []

-- the same state with other words of memory, where it is a module
abbrev pub with_memory : List Stored → MachineState → MachineState
with_memory memory (Module s) = Module (record s { words = memory })
with_memory memory s = s

-- a state of the machine's types
abbrev pub IsState : MachineState → Type 0
IsState (Proc s) = IsProc s
IsState (Module s) = IsModule s
IsState (Low s) = IsLow s
IsState (Comb s) = IsComb s

-- the state that words are, with these words of memory
abbrev pub state_with : ℕ → List ℕ → List Stored → MachineState
state_with h ws memory =
    if h % 2 ^ 2 == 0 then Proc (proc_from h ws)
    else if h % 2 ^ 2 == 1 then Module (module_from h ws memory)
    else if h % 2 ^ 2 == 2 then Low (low_from h ws)
    else Comb (comb_from h ws)

abbrev pub state_from : List ℕ → List Stored → MachineState
state_from ws memory = state_with (slice_index ws 0) (drop 1 ws) memory
