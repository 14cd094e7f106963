-- What is kept of a run, from which a map is made.
use Rattle.std.specs.Prelude.{◌≡◌, ℕ, ◌+◌, ◌-◌, List, map, min, Option}
use Rattle.std.specs.List.{flat_map}
use Rattle.omega_net.specs.declared.component.Net.{Net}
use Rattle.omega_net.specs.Numbers.{lines}
use Rattle.omega_net.specs.Wires.{below}
use Rattle.project_book.specs.Project.{Project}
use Rattle.machine_cells.specs.declared.state.MachineState.{MachineState}
use Rattle.machine_cells.specs.Run.{run}
use Rattle.machine_cells.specs.Runs.{state_in}
use Rattle.saturation.specs.Levels.{level}
use Rattle.experiments.specs.declared.map.Kept.{Kept}
use Rattle.experiments.specs.declared.map.Scope.{Scope}
use Rattle.experiments.specs.declared.map.Window.{Window}
use Rattle.saturation.specs.Towards.{line_towards, queues_at}
use Rattle.experiments.specs.Maps.{has_served, length_on}

-- the length of the queue at a place among those of a stage that lead to module m, in the states of one cycle
abbrev pub length_there : ℕ → Net → ℕ → (ℕ → Option MachineState) → ℕ → ℕ → ℕ
length_there k net m at stage place = length_on k net at stage (line_towards k m stage place)

-- the lengths of a stage's queues, of the queues of the last n stages, the last one first, and of all queues at the first t cycles
abbrev pub stage_now : ℕ → Net → ℕ → (ℕ → Option MachineState) → ℕ → List ℕ
stage_now k net m at stage = map (length_there k net m at stage) (below (queues_at k stage))

abbrev pub lengths_now : ℕ → Net → ℕ → (ℕ → Option MachineState) → ℕ → List ℕ
lengths_now k net m at n = flat_map (λ back. stage_now k net m at (k - 1 - back)) (below n)

abbrev pub all_lengths : ℕ → Net → ℕ → (ℕ → ℕ → Option MachineState) → ℕ → List ℕ
all_lengths k net m at t = flat_map (λ u. lengths_now k net m (at u) k) (below t)

-- how many cycles of a window are among the first t
abbrev pub cycles_of : Window → ℕ → ℕ
cycles_of w t = min t (w.to + 1) - w.from

-- the states of a run from the first cycle of a window on
abbrev pub states_from : Project → Window → ℕ → ℕ → Option MachineState
states_from P w i = state_in (run P) (i + w.from)

-- the lengths of the queues at the first n cycles of the window
abbrev pub lengths_of : Project → Scope → ℕ → List ℕ
lengths_of P s n = all_lengths P.k s.net s.«module» (states_from P s.window) n

-- the lengths are those of the whole window
abbrev pub AreLengths : Project → Kept → Type 0
AreLengths P kept = kept.lengths.items ≡ lengths_of P kept.scope (kept.scope.window.to + 1 - kept.scope.window.from)

-- what is kept of the first t cycles of a run: the lengths and what was served of those in the window, the levels of all
pub record IsKept (P : Project) (t : ℕ) (kept : Kept) : Type 0 where
  pub lengths : kept.lengths.items ≡ lengths_of P kept.scope (cycles_of kept.scope.window t)
  pub served : kept.served.items ≡ map (λ i. has_served kept.scope.net (states_from P kept.scope.window i (lines P.k + kept.scope.«module»))) (below (cycles_of kept.scope.window t))
  pub levels : kept.levels.items ≡ map (λ u. level P kept.scope.net kept.scope.«module» (state_in (run P) u)) (below t)
