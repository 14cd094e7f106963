-- The run of a project: its first states, then one cycle after another.
use Rattle.std.specs.Prelude.{ℕ, zero, suc, ◌==◌, ◌&&◌, nat_lt, Bool, if◌then◌else◌, List, [], ◌∷◌, map, Option, Some}
use Rattle.omega_net.specs.declared.component.Component.{Component}
use Rattle.omega_net.specs.declared.component.Component.TheVariants.{Module as ModuleAt}
use Rattle.omega_net.specs.Numbers.{components, component_of}
use Rattle.omega_net.specs.Wires.{below}
use Rattle.mem_module.specs.declared.words.Stored.{Stored}
use Rattle.mem_module.specs.Memory.{with_word}
use Rattle.mem_module.specs.MemModule.{module_start}
use Rattle.machine_cells.specs.declared.state.MachineState.{MachineState}
use Rattle.machine_cells.specs.declared.state.MachineState.TheVariants.{Module}
use Rattle.project_book.specs.Project.{Project, place_in}
use Rattle.project_book.specs.declared.words.FirstWord.{FirstWord}
use Rattle.page_map.specs.Limits.{address_count}
use Rattle.machine_cells.specs.Cycle.{blank_of, cycle}

-- whether a first word stands in a module
abbrev pub stands_in : Project → ℕ → FirstWord → Bool
stands_in P m f = nat_lt f.address address_count && ((place_in P f.address).«module» == m)

-- the first words that stand in a module, by row
abbrev pub words_in : Project → ℕ → List FirstWord → List Stored
words_in P m [] = []
words_in P m (f ∷ fs) = if stands_in P m f then with_word (words_in P m fs) (place_in P f.address).row f.word else words_in P m fs

-- a component before the first cycle
abbrev pub start_of : Project → Option Component → MachineState
start_of P (Some (ModuleAt m)) = Module (module_start (words_in P m P.words))
start_of P x = blank_of x

abbrev pub first_states : Project → List MachineState
first_states P = map (λ c. start_of P (component_of P.k c)) (below (components P.k))

abbrev pub run_from : Project → List MachineState → ℕ → List (List MachineState)
run_from P S zero = S ∷ []
run_from P S (suc n) = S ∷ run_from P (cycle P S) n

-- `run`: the whole states of cycles 0 to the horizon
abbrev pub run : Project → List (List MachineState)
run P = run_from P (first_states P) P.horizon
