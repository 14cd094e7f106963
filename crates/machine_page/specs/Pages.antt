-- The page of a run in some cycles.
use Rattle.std.specs.Prelude.{ℕ, ◌+◌, ◌-◌, List, ◌++◌, Option, codes, decimal}
use Rattle.std.specs.List.{flat_map}
use Rattle.omega_net.specs.Numbers.{components}
use Rattle.omega_net.specs.Wires.{below}
use Rattle.machine_cells.specs.declared.state.MachineState.{MachineState}
use Rattle.machine_cells.specs.Run.{run}
use Rattle.machine_cells.specs.Runs.{state_in}
use Rattle.project_book.specs.Project.{Project}
use Rattle.machine_page.specs.declared.head.TheConstants.{HEAD}
use Rattle.machine_page.specs.declared.script.TheConstants.{TAIL}
use Rattle.machine_page.specs.Machines.{machine_text}
use Rattle.machine_page.specs.States.{state_text}

-- the states of all components, S, each behind a semicolon
abbrev pub states_text : Project → (ℕ → Option MachineState) → List ℕ
states_text P S = flat_map (λ c. codes ";" ++ state_text P (S c)) (below (components P.k))

-- a line for cycle t: its number, and the states of all components
abbrev pub cycle_line : Project → (ℕ → ℕ → Option MachineState) → ℕ → List ℕ
cycle_line P at t = decimal t ++ states_text P (at t) ++ codes "\n"

-- the lines of n cycles from one on
abbrev pub cycle_lines : Project → (ℕ → ℕ → Option MachineState) → ℕ → ℕ → List ℕ
cycle_lines P at from n = flat_map (λ j. cycle_line P at (from + j)) (below n)

-- the data: the machine, and its states in the cycles from one to another
abbrev pub data_text : Project → ℕ → ℕ → List ℕ
data_text P from to = machine_text P from to ++ cycle_lines P (state_in (run P)) from (to - from + 1)

-- the page: the data between what every page has
abbrev pub page_text : Project → ℕ → ℕ → List ℕ
page_text P from to = HEAD.now ++ data_text P from to ++ TAIL.now
