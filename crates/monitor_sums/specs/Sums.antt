-- The sums over the cells of a map from cycle and component to states.
use Rattle.std.specs.Prelude.{◌≡◌, ℕ, ◌+◌, ◌-◌, ◌<◌, ◌≤◌, ◌==◌, ◌&&◌, nat_le, nat_lt, Bool, false, if◌then◌else◌, List, map, slice_index, Option, None, Some}
use Rattle.omega_net.specs.declared.component.Net.{Net}
use Rattle.omega_net.specs.declared.component.Component.{Component}
use Rattle.omega_net.specs.declared.component.Component.TheVariants.{Switch}
use Rattle.omega_net.specs.Numbers.{components, component_of}
use Rattle.omega_net.specs.Wires.{below, net_number}
use Rattle.machine_cells.specs.declared.state.MachineState.{MachineState}
use Rattle.monitor_sums.specs.declared.counter.Counter.{Counter}
use Rattle.monitor_sums.specs.Counts.{one, count, output_lengths}
use Rattle.monitor_sums.specs.Adding.{sum_below}
use Rattle.monitor_sums.specs.Limits.{profile_lengths}

-- a map from cycle and component to the state held there, if there is one
abbrev pub States : Type 0
States = ℕ → ℕ → Option MachineState

-- the sum of f over the cells of the components asked, one or all, at the cycles `from` to `to`
abbrev pub sum_over : ℕ → (ℕ → ℕ → ℕ) → Option ℕ → ℕ → ℕ → ℕ
sum_over k f (Some c) from to = sum_below (λ i. f (i + from) c) (to + 1 - from)
sum_over k f None from to = sum_below (λ c. sum_below (λ i. f (i + from) c) (to + 1 - from)) (components k)

-- what those cells count
abbrev pub sum_of : ℕ → Counter → States → Option ℕ → ℕ → ℕ → ℕ
sum_of k counter at who from to = sum_over k (λ t c. count counter (at t c)) who from to

-- what the components asked count over all cycles, of which `last` is the last
abbrev pub total_of : ℕ → Counter → States → Option ℕ → ℕ → ℕ
total_of k counter at who last = sum_of k counter at who 0 last

-- whether a component is a switch of a stage
abbrev pub is_in_stage : Net → ℕ → Option Component → Bool
is_in_stage net stage (Some (Switch n s j)) = (net_number n == net_number net) && (s == stage)
is_in_stage net stage _ = false

-- how many of the lengths of two queues are n
abbrev pub of_length : ℕ → Option (List ℕ) → ℕ
of_length n None = 0
of_length n (Some ls) = one (slice_index ls 0 == n) + one (slice_index ls 1 == n)

-- how many output queues of a stage are of length n at a cell: none where it isn't of that stage
abbrev pub in_profile : ℕ → Net → ℕ → ℕ → ℕ → Option (List ℕ) → ℕ
in_profile k net stage n c ls = if is_in_stage net stage (component_of k c) then of_length n ls else 0

-- the pairs of an output queue of a stage and a cycle from 0 to h at which that queue's length is n
abbrev pub pairs_of : ℕ → States → Net → ℕ → ℕ → ℕ → ℕ
pairs_of k at net stage h n = sum_over k (λ t c. in_profile k net stage n c (output_lengths (at t c))) None 0 h

-- `profile`: at place n those pairs of length n, for n from 0 to 16
unfoldable pub profile_of : ℕ → States → Net → ℕ → ℕ → List ℕ
profile_of k at net stage h = map (pairs_of k at net stage h) (below profile_lengths)

-- the map where a cell holds another state, or none
abbrev pub changed : States → ℕ → ℕ → Option MachineState → States
changed at t c state u d = if (u == t) && (d == c) then state else at u d

-- the map where the cells of a component at the cycles from `from` on and before `end` hold another state, or none
abbrev pub filled : States → ℕ → ℕ → ℕ → Option MachineState → States
filled at c from end state u d = if (nat_le from u && nat_lt u end) && (d == c) then state else at u d

-- the map where the cells of the cycles `from` to `to` hold no state
abbrev pub cleared : States → ℕ → ℕ → States
cleared at from to u d = if nat_le from u && nat_le u to then None else at u d

-- whether the cells of the cycles past h, and up to `last`, hold no state
abbrev pub NonePast : ℕ → States → ℕ → ℕ → Type 0
NonePast k at h last = (t c : ℕ) → h < t → t ≤ last → c < components k → at t c ≡ None
