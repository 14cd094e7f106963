-- The machine's states as words and memory: a module's memory is not among its words.
use Rattle.std.specs.Prelude.{List, [], Option, None, Some}
use Rattle.mem_module.specs.declared.words.Stored.{Stored}
use Rattle.grid_law.specs.Codec.{Codec}
use Rattle.machine_cells.specs.declared.state.MachineState.{MachineState}
use Rattle.machine_cells.specs.declared.state.MachineState.TheVariants.{Module}
use Rattle.machine_cells.specs.Words.{words_of, state_from}

-- a module's memory; others have none
abbrev pub memory_in : MachineState → Option (List Stored)
memory_in (Module s) = Some s.words
memory_in s = None

-- a module that is put together without a memory gets an empty one
abbrev pub or_none : Option (List Stored) → List Stored
or_none None = []
or_none (Some memory) = memory

abbrev pub rp3_codec : Codec MachineState (List Stored)
rp3_codec = record { words = words_of; memory = memory_in; state = λ ws memory. state_from ws (or_none memory) }
