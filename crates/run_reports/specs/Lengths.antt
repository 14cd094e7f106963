-- How long queues are in the cycles of a window.
use Rattle.std.specs.Prelude.{ℕ, ◌+◌, ◌-◌, List, map, Option, slice_get, unwrap_or}
use Rattle.omega_net.specs.Wires.{below}
use Rattle.machine_cells.specs.declared.state.MachineState.{MachineState}
use Rattle.run_reports.specs.declared.condition.Window.{Window}
use Rattle.run_reports.specs.declared.full_queues.PartQueue.{PartQueue}
use Rattle.run_reports.specs.Gauges.{queue_length}

-- the length of a queue at each cycle from one to another
abbrev pub lengths_of : (ℕ → ℕ → Option MachineState) → Window → PartQueue → List ℕ
lengths_of at w q = map (λ i. queue_length q.part (at (w.from + i) q.place)) (below (w.to + 1 - w.from))

-- the lengths of several queues, where S holds the components' states
abbrev pub lengths_at : List PartQueue → (ℕ → Option MachineState) → List ℕ
lengths_at qs S = map (λ q. queue_length q.part (S q.place)) qs

-- the number at a place of a row, 0 where there is none; and at that place of each of several rows
abbrev pub number_at : ℕ → List ℕ → ℕ
number_at place row = unwrap_or (slice_get row place) 0

abbrev pub column_at : List (List ℕ) → ℕ → List ℕ
column_at rows place = map (number_at place) rows
