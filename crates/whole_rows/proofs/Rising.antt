-- The words of memory of each module ascend by rows, in every state of a run.
use Rattle.std.proofs.Common.{ℕ, zero, suc, List, ◌∷◌, map, Option, None, Some}
use Rattle.std.specs.Prelude.{IfSome}
use Rattle.omega_net.specs.declared.component.Component.{Component}
use Rattle.omega_net.specs.declared.component.Component.TheVariants.{Proc as ProcAt, Module as ModuleAt, Switch}
use Rattle.omega_net.specs.declared.component.Net.TheVariants.{Low as LowNet, Comb as CombNet}
use Rattle.omega_net.specs.declared.message.Request.{Request}
use Rattle.omega_net.specs.Numbers.{component_of}
use Rattle.grid_law.specs.Run.{run}
use Rattle.mem_module.specs.declared.words.Stored.{Stored}
use Rattle.mem_module.specs.Memory.{IsAscending, word_at}
use Rattle.mem_module.specs.MemModule.{served_net, served_on, words_after}
use Rattle.mem_module.proofs.Rows.{with_ascends}
use Rattle.word_ops.specs.Words.{word_after}
use Rattle.project_book.specs.Project.{Project, depth_of}
use Rattle.project_book.specs.declared.edit.Depths.TheVariants.{ModuleQueue}
use Rattle.machine_cells.specs.declared.state.MachineState.{MachineState}
use Rattle.machine_cells.specs.declared.state.MachineState.TheVariants.{Proc, Module, Low, Comb}
use Rattle.machine_cells.specs.Cells.{pulled}
use Rattle.machine_cells.specs.Codec.{memory_in}
use Rattle.machine_cells.specs.GridRules.{rp3_rules, beside_numbers}
use Rattle.machine_cells.specs.Run.{start_of}
use Rattle.flat_row.proofs.Wording.{words_rise}

-- where a state has a memory, its words ascend
abbrev pub Rises : MachineState → Type 0
Rises s = IfSome (memory_in s) IsAscending

-- so they do at cycle 0
starts_rise : (P : Project) (x : Option Component) → Rises (start_of P x)
starts_rise P None = tt
starts_rise P (Some (ProcAt p)) = tt
starts_rise P (Some (ModuleAt m)) = words_rise P m P.words
starts_rise P (Some (Switch LowNet s j)) = tt
starts_rise P (Some (Switch CombNet s j)) = tt

-- after a request is served
served_rises : (ws : List Stored) (r : Option Request) → IsAscending ws → IsAscending (words_after ws r)
served_rises ws None rise = rise
served_rises ws (Some r) rise = with_ascends r.place.row ws (word_after r.op (word_at ws r.place.row)) rise

-- and one cycle later
pulled_rises : (P : Project) (N : List MachineState) (x : Option Component) (s : MachineState) → Rises s → Rises (pulled P N x s)
pulled_rises P N None s rise = tt
pulled_rises P N (Some (ProcAt p)) (Proc s) rise = tt
pulled_rises P N (Some (ProcAt p)) (Module s) rise = tt
pulled_rises P N (Some (ProcAt p)) (Low s) rise = tt
pulled_rises P N (Some (ProcAt p)) (Comb s) rise = tt
pulled_rises P N (Some (ModuleAt m)) (Proc s) rise = tt
pulled_rises P N (Some (ModuleAt m)) (Module s) rise = served_rises s.words (served_on s (served_net s (depth_of P ModuleQueue))) rise
pulled_rises P N (Some (ModuleAt m)) (Low s) rise = tt
pulled_rises P N (Some (ModuleAt m)) (Comb s) rise = tt
pulled_rises P N (Some (Switch LowNet i j)) (Proc s) rise = tt
pulled_rises P N (Some (Switch LowNet i j)) (Module s) rise = tt
pulled_rises P N (Some (Switch LowNet i j)) (Low s) rise = tt
pulled_rises P N (Some (Switch LowNet i j)) (Comb s) rise = tt
pulled_rises P N (Some (Switch CombNet i j)) (Proc s) rise = tt
pulled_rises P N (Some (Switch CombNet i j)) (Module s) rise = tt
pulled_rises P N (Some (Switch CombNet i j)) (Low s) rise = tt
pulled_rises P N (Some (Switch CombNet i j)) (Comb s) rise = tt

pub run_rises : (P : Project) (t c : ℕ) → Rises (run rp3_rules P t c)
run_rises P zero c = starts_rise P (component_of P.k c)
run_rises P (suc t) c =
    pulled_rises P (run rp3_rules P t c ∷ map (run rp3_rules P t) (beside_numbers P.k (component_of P.k c))) (component_of P.k c) (run rp3_rules P t c) (run_rises P t c)
