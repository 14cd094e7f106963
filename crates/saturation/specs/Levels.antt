-- How far saturation has grown from a module towards the processors.
use Rattle.std.specs.Prelude.{ℕ, zero, suc, ◌+◌, ◌-◌, nat_le, Bool, if◌then◌else◌, List, map, drop, Option, find}
use Rattle.std.specs.List.{list_all}
use Rattle.omega_net.specs.declared.component.Net.{Net}
use Rattle.omega_net.specs.Wires.{below}
use Rattle.project_book.specs.Project.{Project}
use Rattle.machine_cells.specs.declared.state.MachineState.{MachineState}
use Rattle.saturation.specs.Towards.{is_full_stage}

-- the greatest number up to n of which it is so, 0 where there is none
abbrev pub greatest : (ℕ → Bool) → ℕ → ℕ
greatest holds zero = 0
greatest holds (suc n) = if holds (suc n) then suc n else greatest holds n

-- whether all queues towards module m at the last j of the k stages are full
abbrev pub are_full_last : Project → Net → ℕ → (ℕ → Option MachineState) → ℕ → Bool
are_full_last P net m at j = list_all (is_full_stage P net m at) (drop (P.k - j) (below P.k))

-- the level of a cycle with these states by component
abbrev pub level : Project → Net → ℕ → (ℕ → Option MachineState) → ℕ
level P net m at = greatest (are_full_last P net m at) P.k

-- the cycles of a run
abbrev pub cycles : Project → List ℕ
cycles P = below (suc P.horizon)

-- the level of each cycle, where the states are given by cycle and component
abbrev pub levels : Project → Net → ℕ → (ℕ → ℕ → Option MachineState) → List ℕ
levels P net m at = map (λ t. level P net m (at t)) (cycles P)

-- the first cycle with a level of j or more
abbrev pub first_cycle : Project → Net → ℕ → (ℕ → ℕ → Option MachineState) → ℕ → Option ℕ
first_cycle P net m at j = find (λ t. nat_le j (level P net m (at t))) (cycles P)

-- the same for each level from 1 to k
abbrev pub first_cycles : Project → Net → ℕ → (ℕ → ℕ → Option MachineState) → List (Option ℕ)
first_cycles P net m at = map (λ j. first_cycle P net m at (j + 1)) (below P.k)
