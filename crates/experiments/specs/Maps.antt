-- What a map of saturation shows of states by cycle and component.
use Rattle.std.specs.Prelude.{ℕ, ◌+◌, ◌-◌, ◌*◌, ◌/◌, ◌%◌, ◌^◌, ◌&&◌, Bool, false, List, map, length, Option, Some}
use Rattle.omega_net.specs.declared.component.Net.{Net}
use Rattle.omega_net.specs.declared.component.Component.TheVariants.{Switch}
use Rattle.omega_net.specs.Numbers.{number_of}
use Rattle.omega_net.specs.Ports.{queue_at}
use Rattle.omega_net.specs.Wires.{below}
use Rattle.project_book.specs.Project.{Project}
use Rattle.machine_cells.specs.declared.state.MachineState.{MachineState}
use Rattle.machine_cells.specs.declared.state.MachineState.TheVariants.{Low, Comb, Module}
use Rattle.mem_module.specs.MemModule.{is_net, other_net}
use Rattle.saturation.specs.Levels.{level}
use Rattle.saturation.specs.Towards.{line_towards, queues_at}
use Rattle.experiments.specs.declared.series.QueueLengths.{QueueLengths}
use Rattle.experiments.specs.declared.map.StageLengths.{StageLengths}

-- how many messages the queue at output o of a switch's state holds
abbrev pub length_in : ℕ → Option MachineState → ℕ
length_in o (Some (Low s)) = length (queue_at s.fwd o).items
length_in o (Some (Comb s)) = length (queue_at s.fwd o).items
length_in o _ = 0

-- whether a module served a request of a network in the last step: the turn then went to the other one
abbrev pub has_served : Net → Option MachineState → Bool
has_served net (Some (Module s)) = s.served && is_net net (Some (other_net s.turn))
has_served net _ = false

-- what f is at each cycle from one to another
abbrev pub over_cycles : {T : Type 0} → (ℕ → T) → ℕ → ℕ → List T
over_cycles f from to = map (λ i. f (i + from)) (below (to + 1 - from))

-- the length of the queue on a line of a stage: line 2j + o is output o of switch j
abbrev pub length_on : ℕ → Net → (ℕ → Option MachineState) → ℕ → ℕ → ℕ
length_on k net at stage line = length_in (line % 2) (at (number_of k (Switch net stage (line / 2))))

-- the lengths of a queue at the cycles of a window; the queue at a place among those of a stage towards module m, with its
-- line; all of that stage; those of each stage, the last one first
abbrev pub queue_lengths : ℕ → Net → (ℕ → ℕ → Option MachineState) → ℕ → ℕ → ℕ → ℕ → List ℕ
queue_lengths k net at from to stage line = over_cycles (λ t. length_on k net (at t) stage line) from to

abbrev pub lengths_towards : ℕ → Net → ℕ → (ℕ → ℕ → Option MachineState) → ℕ → ℕ → ℕ → ℕ → QueueLengths
lengths_towards k net m at from to stage place = record {
  line = line_towards k m stage place;
  lengths = queue_lengths k net at from to stage (line_towards k m stage place);
}

abbrev pub stage_lengths : ℕ → Net → ℕ → (ℕ → ℕ → Option MachineState) → ℕ → ℕ → ℕ → List QueueLengths
stage_lengths k net m at from to stage = map (lengths_towards k net m at from to stage) (below (queues_at k stage))

abbrev pub stages_lengths : ℕ → Net → ℕ → (ℕ → ℕ → Option MachineState) → ℕ → ℕ → List StageLengths
stages_lengths k net m at from to = map (λ back. record { stage = k - 1 - back; queues = stage_lengths k net m at from to (k - 1 - back) }) (below k)

-- the level at each cycle of a window
abbrev pub levels_over : Project → Net → ℕ → (ℕ → ℕ → Option MachineState) → ℕ → ℕ → List ℕ
levels_over P net m at from to = over_cycles (λ t. level P net m (at t)) from to

-- whether a component served a request of a network, at each
abbrev pub served_over : Net → (ℕ → ℕ → Option MachineState) → ℕ → ℕ → ℕ → List Bool
served_over net at c from to = over_cycles (λ t. has_served net (at t c)) from to
