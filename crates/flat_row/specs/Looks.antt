-- What a look shows of a component's state.
use Rattle.std.specs.Prelude.{ℕ, length}
use Rattle.omega_net.specs.Ports.{queue_at}
use Rattle.machine_cells.specs.declared.state.MachineState.{MachineState}
use Rattle.machine_cells.specs.declared.state.MachineState.TheVariants.{Low, Comb}

-- how many requests wait at an output of a switch
abbrev pub length_forward : ℕ → MachineState → ℕ
length_forward o (Low s) = length (queue_at s.fwd o).items
length_forward o (Comb s) = length (queue_at s.fwd o).items
length_forward o _ = 0
