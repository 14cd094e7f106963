-- What is reported of the saturation towards a module.
use Rattle.std.specs.Prelude.{ℕ, Option}
use Rattle.omega_net.specs.declared.component.Net.{Net}
use Rattle.project_book.specs.Project.{Project}
use Rattle.machine_cells.specs.declared.state.MachineState.{MachineState}
use Rattle.saturation.specs.declared.report.Tree.{Tree}
use Rattle.saturation.specs.Levels.{levels, first_cycles}

-- `tree`: the level of each cycle, and the first cycle of each level, of states given by cycle and component
abbrev pub tree : Project → Net → ℕ → (ℕ → ℕ → Option MachineState) → Tree
tree P net m at = record { levels = levels P net m at; first = record { items = first_cycles P net m at } }
