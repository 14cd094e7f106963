-- Which queues of a run were full, and at which cycle they first were.
use Rattle.std.specs.Prelude.{ℕ, suc, ◌==◌, nat_lt, Bool, false, List, [], ◌∷◌, map, Option, Some}
use Rattle.std.specs.List.{flat_map}
use Rattle.omega_net.specs.declared.component.Net.TheVariants.{Low as LowNet, Comb as CombNet}
use Rattle.omega_net.specs.declared.component.Component.{Component}
use Rattle.omega_net.specs.declared.component.Component.TheVariants.{Module as ModuleAt, Switch}
use Rattle.omega_net.specs.Numbers.{component_of, components}
use Rattle.omega_net.specs.Ports.{queue_at}
use Rattle.omega_net.specs.Queues.{free}
use Rattle.omega_net.specs.Wires.{below, net_number}
use Rattle.project_book.specs.Project.{Project, depth_of, forward, reverse}
use Rattle.project_book.specs.declared.edit.Depths.TheVariants.{ModuleQueue}
use Rattle.machine_cells.specs.declared.state.MachineState.{MachineState}
use Rattle.machine_cells.specs.declared.state.MachineState.TheVariants.{Module, Low, Comb}
use Rattle.run_reports.specs.declared.full_queues.Part.{Part}
use Rattle.run_reports.specs.declared.full_queues.Part.TheVariants.{Forward, Reverse, Requests, Replies, Wait}
use Rattle.run_reports.specs.declared.full_queues.PartQueue.{PartQueue}
use Rattle.run_reports.specs.declared.full_queues.FirstFull.{FirstFull}
use Rattle.run_reports.specs.Figures.{first_that}

-- the queues of a component, and its wait buffer
abbrev pub parts_of : Option Component → List Part
parts_of (Some (ModuleAt m)) = Requests LowNet ∷ Requests CombNet ∷ Replies LowNet ∷ Replies CombNet ∷ []
parts_of (Some (Switch LowNet stage index)) = Forward 0 ∷ Forward 1 ∷ Reverse 0 ∷ Reverse 1 ∷ []
parts_of (Some (Switch CombNet stage index)) = Forward 0 ∷ Forward 1 ∷ Reverse 0 ∷ Reverse 1 ∷ Wait ∷ []
parts_of _ = []

-- those of the component with number c, and of all components of a machine of 2^k processors
abbrev pub queues_of : ℕ → ℕ → List PartQueue
queues_of k c = map (λ part. record { place = c; part = part }) (parts_of (component_of k c))

abbrev pub queues : ℕ → List PartQueue
queues k = flat_map (queues_of k) (below (components k))

-- whether a queue is full in a component's state: one of a switch with fewer than two free places, since two messages may come in a
-- step; one of a module, or a wait buffer, with none
abbrev pub is_full : Project → Part → Option MachineState → Bool
is_full P (Forward o) (Some (Low s)) = nat_lt (free (forward P LowNet) (queue_at s.fwd o)) 2
is_full P (Forward o) (Some (Comb s)) = nat_lt (free (forward P CombNet) (queue_at s.fwd o)) 2
is_full P (Reverse i) (Some (Low s)) = nat_lt (free (reverse P LowNet) (queue_at s.rev i)) 2
is_full P (Reverse i) (Some (Comb s)) = nat_lt (free (reverse P CombNet) (queue_at s.rev i)) 2
is_full P (Requests net) (Some (Module s)) = free (depth_of P ModuleQueue) (queue_at s.requests (net_number net)) == 0
is_full P (Replies net) (Some (Module s)) = free (depth_of P ModuleQueue) (queue_at s.replies (net_number net)) == 0
is_full P Wait (Some (Comb s)) = free P.wait s.wait == 0
is_full P part _ = false

-- the first of the cycles before t at which a queue is full
abbrev pub first_full : Project → (ℕ → ℕ → Option MachineState) → ℕ → PartQueue → FirstFull
first_full P at t q = record { queue = q; cycle = first_that (λ u. is_full P q.part (at u q.place)) t }

-- for all queues, in the cycles up to the horizon
abbrev pub first_fulls : Project → (ℕ → ℕ → Option MachineState) → List FirstFull
first_fulls P at = map (first_full P at (suc P.horizon)) (queues P.k)
