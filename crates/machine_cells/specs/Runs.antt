-- The run of the machine as a grid, cell by cell, and its run cycle by cycle.
use Rattle.std.specs.Prelude.{◌≡◌, ℕ, ◌<◌, ◌≤◌, List, Option, Some, slice_get, option_and_then, length}
use Rattle.grid_law.specs.Run.{run as grid_run}
use Rattle.omega_net.specs.Numbers.{components}
use Rattle.machine_cells.specs.declared.state.MachineState.{MachineState}
use Rattle.project_book.specs.Project.{Project}
use Rattle.machine_cells.specs.Cycle.{cycle}
use Rattle.machine_cells.specs.Cells.{states_at}
use Rattle.machine_cells.specs.Run.{first_states, run}
use Rattle.machine_cells.specs.GridRules.{rp3_rules}

-- the first state of a cell is its component's part of the machine's first states
abbrev pub StartsAreParts : Type 0
StartsAreParts = (P : Project) (c : ℕ) → c < components P.k → slice_get (first_states P) c ≡ Some (rp3_rules.start P c)

-- and its step from its near states, of any whole state, is its component's part of the cycle
abbrev pub CellsAreParts : Type 0
CellsAreParts =
    (P : Project) (S : List MachineState) → length S ≡ components P.k → (c : ℕ) → c < components P.k
    → slice_get (cycle P S) c ≡ Some (rp3_rules.step P (states_at S (rp3_rules.near P c)) c)

-- a component's state in a list of whole states
abbrev pub state_in : List (List MachineState) → ℕ → ℕ → Option MachineState
state_in rows t c = option_and_then (λ S. slice_get S c) (slice_get rows t)

-- the run of the machine as a grid is the list of its whole states by `cycle`
abbrev pub RunsAreOne : Type 0
RunsAreOne = (P : Project) (t c : ℕ) → t ≤ P.horizon → c < components P.k → state_in (run P) t c ≡ Some (grid_run rp3_rules P t c)
