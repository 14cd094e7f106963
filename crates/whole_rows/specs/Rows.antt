-- The row of a machine as the whole row of its cells, by number.
use Rattle.std.specs.Prelude.{ℕ, ◌/◌, ◌%◌, ◌^◌, ◌<◌, Bool, false, not, List, Option, None, Some}
use Rattle.omega_net.specs.declared.component.Component.{Component}
use Rattle.omega_net.specs.declared.component.Component.TheVariants.{Proc as ProcAt, Module as ModuleAt, Switch}
use Rattle.omega_net.specs.Numbers.{component_of}
use Rattle.machine_cells.specs.declared.state.MachineState.{MachineState}
use Rattle.machine_cells.specs.Codec.{rp3_codec}
use Rattle.machine_cells.specs.GridRules.{rp3_rules}
use Rattle.due_cells.specs.Spares.{AreKept}
use Rattle.due_cells.specs.declared.beside.Beside.{Beside}
use Rattle.mem_module.specs.declared.words.Stored.{Stored}
use Rattle.mem_module.specs.Memory.{with_word}
use Rattle.project_book.specs.Project.{Project}
use Rattle.flat_row.specs.declared.changed.Changed.{Changed}
use Rattle.flat_row.specs.Row.{Arrays, IsRowOf, state_of}
use Rattle.flat_row.specs.Changed.{has_changed}
use Rattle.flat_row.specs.Masks.{has}

-- the state that a row holds for the cell of a number
abbrev pub state_in : Arrays → ℕ → MachineState
state_in R c = state_of R (component_of R.k c)

-- rows that are kept hold what they hold of the run of this project, where they aren't forgotten
abbrev pub AreRowsOf : Project → Beside Arrays → Type 0
AreRowsOf P rows = AreKept rp3_rules rp3_codec (λ row Q. IsRowOf Q row) state_in P rows

-- whether a component is outside of what a step changes
abbrev pub is_outside : ℕ → Changed → Option Component → Bool
is_outside k changed None = false
is_outside k changed (Some component) = not (has_changed k changed component)

-- the same of the cell of a number
abbrev pub is_still : Changed → Project → ℕ → Bool
is_still changed P c = is_outside P.k changed (component_of P.k c)

-- whether a component is a module in which a step changes a word
abbrev pub wrote_in : Changed → Option Component → Bool
wrote_in changed None = false
wrote_in changed (Some (ProcAt p)) = false
wrote_in changed (Some (ModuleAt m)) = has changed.wrote m
wrote_in changed (Some (Switch net s j)) = false

-- the same of the cell of a number
abbrev pub has_written : Changed → Project → ℕ → Bool
has_written changed P c = wrote_in changed (component_of P.k c)

-- the bytes of a head behind the lengths of queues: three are 0 or 1, and the last is below n
pub record HasTurns (h n : ℕ) : Type 0 where
  pub first : h / 2 ^ 27 % 2 ^ 8 < 2
  pub second : h / 2 ^ 35 % 2 ^ 8 < 2
  pub third : h / 2 ^ 43 % 2 ^ 8 < 2
  pub last : h / 2 ^ 51 % 2 ^ 8 < n

-- the memory in which a module left a word, or none where it left none
abbrev pub memory_after : Option (List Stored) → Option Stored → Option (List Stored)
memory_after None left = None
memory_after (Some ws) None = None
memory_after (Some ws) (Some w) = Some (with_word ws w.row w.word)
