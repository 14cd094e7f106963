-- The queues towards a module, and when they are full.
use Rattle.std.specs.Prelude.{ℕ, ◌+◌, ◌-◌, ◌*◌, ◌/◌, ◌%◌, ◌^◌, ◌==◌, nat_lt, Bool, true, false, if◌then◌else◌, Option, Some}
use Rattle.std.specs.List.{list_all}
use Rattle.omega_net.specs.declared.component.Net.{Net}
use Rattle.omega_net.specs.declared.component.Component.TheVariants.{Switch}
use Rattle.omega_net.specs.Numbers.{lines, number_of}
use Rattle.omega_net.specs.Ports.{queue_at}
use Rattle.omega_net.specs.Queues.{free}
use Rattle.omega_net.specs.Wires.{below}
use Rattle.project_book.specs.Project.{Project, forward}
use Rattle.machine_cells.specs.declared.state.MachineState.{MachineState}
use Rattle.machine_cells.specs.declared.state.MachineState.TheVariants.{Low, Comb}

-- whether the queue on this line of a stage leads to module m: the line's last bits are the module's first ones
abbrev pub leads_to : ℕ → ℕ → ℕ → ℕ → Bool
leads_to k m stage line = (line % 2 ^ (stage + 1)) == (m / 2 ^ (k - 1 - stage))

-- how many queues of a stage lead to a module, and the line of each by its place: the module's first bits come last
abbrev pub queues_at : ℕ → ℕ → ℕ
queues_at k stage = 2 ^ (k - 1 - stage)

abbrev pub line_towards : ℕ → ℕ → ℕ → ℕ → ℕ
line_towards k m stage place = place * 2 ^ (stage + 1) + m / 2 ^ (k - 1 - stage)

-- whether an output queue of this depth is full in a switch's state: it has fewer than two free places
abbrev pub is_full : ℕ → ℕ → Option MachineState → Bool
is_full depth o (Some (Low s)) = nat_lt (free depth (queue_at s.fwd o)) 2
is_full depth o (Some (Comb s)) = nat_lt (free depth (queue_at s.fwd o)) 2
is_full depth o _ = false

-- the same of the queue on a line of a stage, in the states of one cycle: line 2j + o is output o of switch j
abbrev pub is_full_on : Project → Net → (ℕ → Option MachineState) → ℕ → ℕ → Bool
is_full_on P net at stage line = is_full (forward P net) (line % 2) (at (number_of P.k (Switch net stage (line / 2))))

-- whether all queues of a stage that lead to module m are full
abbrev pub is_full_stage : Project → Net → ℕ → (ℕ → Option MachineState) → ℕ → Bool
is_full_stage P net m at stage = list_all (λ line. if leads_to P.k m stage line then is_full_on P net at stage line else true) (below (lines P.k))
