-- The machine as a grid: its cells, what they read, how they start and step.
use Rattle.std.specs.Prelude.{◌≡◌, ℕ, List, [], ◌∷◌, Option, None, Some}
use Rattle.omega_net.specs.declared.component.Component.{Component}
use Rattle.omega_net.specs.Numbers.{components, component_of}
use Rattle.omega_net.specs.Near.{beside, numbers_of}
use Rattle.grid_law.specs.Rules.{Rules}
use Rattle.machine_cells.specs.declared.state.MachineState.{MachineState}
use Rattle.project_book.specs.Project.{Project}
use Rattle.project_book.specs.declared.slot.Slot.{Slot}
use Rattle.project_book.specs.Slots.{SameAt}
use Rattle.machine_cells.specs.Run.{start_of}
use Rattle.machine_cells.specs.Cells.{pulled}
use Rattle.machine_cells.specs.Reads.{reads, always_reads, readers}

-- the components beside one, by number; of a number that is no component's, none
abbrev pub beside_numbers : ℕ → Option Component → List ℕ
beside_numbers k None = []
beside_numbers k (Some x) = numbers_of k (beside k x)

-- the cells that a cell reads, itself first
abbrev pub near_cells : ℕ → ℕ → List ℕ
near_cells k c = c ∷ beside_numbers k (component_of k c)

abbrev pub first_state : Project → ℕ → MachineState
first_state P c = start_of P (component_of P.k c)

-- the state after the near states, of which cycle 0 has none
abbrev pub next_state : Project → List MachineState → ℕ → MachineState
next_state P [] c = first_state P c
next_state P (own ∷ others) c = pulled P (own ∷ others) (component_of P.k c) own

abbrev pub rp3_rules : Rules MachineState Project Slot
rp3_rules = record {
  components = λ P. components P.k;
  near = λ P c. near_cells P.k c;
  reads = reads;
  always_reads = always_reads;
  readers = readers;
  start = first_state;
  step = next_state;
  SameShape = λ P Q. P.k ≡ Q.k;
  SameAt = SameAt;
}
