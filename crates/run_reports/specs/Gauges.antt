-- What a gauge shows of the states of one cycle.
use Rattle.std.specs.Prelude.{ℕ, ◌+◌, if◌then◌else◌, nat_lt, List, length, slice_index, Option, None, Some}
use Rattle.omega_net.specs.declared.component.Net.{Net}
use Rattle.omega_net.specs.Numbers.{component_of, components}
use Rattle.omega_net.specs.Ports.{queue_at}
use Rattle.omega_net.specs.Wires.{net_number}
use Rattle.machine_cells.specs.declared.state.MachineState.{MachineState}
use Rattle.machine_cells.specs.declared.state.MachineState.TheVariants.{Module, Low, Comb}
use Rattle.monitor_sums.specs.Adding.{sum_below}
use Rattle.monitor_sums.specs.Counts.{count, one, output_lengths}
use Rattle.monitor_sums.specs.Sums.{is_in_stage}
use Rattle.run_reports.specs.declared.full_queues.Part.{Part}
use Rattle.run_reports.specs.declared.full_queues.Part.TheVariants.{Forward, Reverse, Requests, Replies, Wait}
use Rattle.run_reports.specs.declared.gauge.Gauge.{Gauge}
use Rattle.run_reports.specs.declared.gauge.Gauge.TheVariants.{Counted, CountedAt, Length, Held, Busy}

-- the length of a queue in a component's state
abbrev pub queue_length : Part → Option MachineState → ℕ
queue_length (Forward o) (Some (Low s)) = length (queue_at s.fwd o).items
queue_length (Forward o) (Some (Comb s)) = length (queue_at s.fwd o).items
queue_length (Reverse i) (Some (Low s)) = length (queue_at s.rev i).items
queue_length (Reverse i) (Some (Comb s)) = length (queue_at s.rev i).items
queue_length (Requests net) (Some (Module s)) = length (queue_at s.requests (net_number net)).items
queue_length (Replies net) (Some (Module s)) = length (queue_at s.replies (net_number net)).items
queue_length Wait (Some (Comb s)) = length s.wait.items
queue_length part _ = 0

-- of the lengths of two queues their sum, and how many of them aren't 0
abbrev pub held : Option (List ℕ) → ℕ
held None = 0
held (Some ls) = slice_index ls 0 + slice_index ls 1

abbrev pub busy : Option (List ℕ) → ℕ
busy None = 0
busy (Some ls) = one (nat_lt 0 (slice_index ls 0)) + one (nat_lt 0 (slice_index ls 1))

-- the messages in the output queues of a stage at the component with number c, and how many of these queues hold any
abbrev pub held_at : ℕ → Net → ℕ → ℕ → Option MachineState → ℕ
held_at k net stage c s = if is_in_stage net stage (component_of k c) then held (output_lengths s) else 0

abbrev pub busy_at : ℕ → Net → ℕ → ℕ → Option MachineState → ℕ
busy_at k net stage c s = if is_in_stage net stage (component_of k c) then busy (output_lengths s) else 0

-- what a gauge of a machine of 2^k processors shows, where S holds the components' states
abbrev pub gauge_at : ℕ → Gauge → (ℕ → Option MachineState) → ℕ
gauge_at k (Counted counter) S = sum_below (λ c. count counter (S c)) (components k)
gauge_at k (CountedAt counter place) S = count counter (S place)
gauge_at k (Length q) S = queue_length q.part (S q.place)
gauge_at k (Held net stage) S = sum_below (λ c. held_at k net stage c (S c)) (components k)
gauge_at k (Busy net stage) S = sum_below (λ c. busy_at k net stage c (S c)) (components k)
