-- The state of each component in a whole state, and after a cycle.
use Rattle.std.proofs.Common.{◌≡◌, ℕ, ◌+◌, ◌-◌, ◌<◌, List, [], refl, ap, sym, ◌∙◌, subst, Option, Some, arith}
use Rattle.std.specs.Prelude.{slice_get, option_map}
use Rattle.omega_net.specs.declared.component.Net.TheVariants.{Low as LowNet, Comb as CombNet}
use Rattle.omega_net.specs.declared.component.Component.{Component}
use Rattle.omega_net.specs.declared.component.Component.TheVariants.{Proc as ProcAt, Module as ModuleAt, Switch}
use Rattle.omega_net.specs.Numbers.{lines, half, number_of, Exists, component_of}
use Rattle.ref_proc.specs.declared.state.ProcState.{ProcState}
use Rattle.ref_proc.specs.RefProc.{proc_start, proc_after}
use Rattle.mem_module.specs.declared.state.ModuleState.{ModuleState}
use Rattle.mem_module.specs.MemModule.{module_start, module_after}
use Rattle.low_switch.specs.declared.state.LowState.{LowState}
use Rattle.low_switch.specs.LowSwitch.{low_start, low_after}
use Rattle.comb_switch.specs.declared.state.CombState.{CombState}
use Rattle.comb_switch.specs.CombSwitch.{comb_start, comb_after}
use Rattle.machine_cells.specs.declared.state.MachineState.{MachineState}
use Rattle.machine_cells.specs.declared.state.MachineState.TheVariants.{Proc, Module, Low, Comb}
use Rattle.project_book.specs.Project.{Project, depth_of}
use Rattle.project_book.specs.declared.edit.Depths.TheVariants.{ModuleQueue}
use Rattle.machine_cells.specs.Moves.{Move, moves}
use Rattle.machine_cells.specs.Cycle.{cycle, part_of, proc_settings, comb_settings, proc_traffic, module_traffic, switch_traffic}
use Rattle.omega_net.proofs.Numbering.{number_leads_back}
use Rattle.machine_cells.proofs.Parts.{parts-get}

abbrev pub proc_of : Option MachineState → ProcState
proc_of (Some (Proc s)) = s
proc_of _ = proc_start

abbrev pub module_of : Option MachineState → ModuleState
module_of (Some (Module s)) = s
module_of _ = module_start []

abbrev pub low_of : Option MachineState → LowState
low_of (Some (Low s)) = s
low_of _ = low_start

abbrev pub comb_of : Option MachineState → CombState
comb_of (Some (Comb s)) = s
comb_of _ = comb_start

abbrev pub state_at : Project → List MachineState → Component → Option MachineState
state_at P S x = slice_get S (number_of P.k x)

-- whether a component's state is of its kind
abbrev pub OfKind : Component → Option MachineState → Type 0
OfKind (ProcAt p) o = (s : ProcState) × (o ≡ Some (Proc s))
OfKind (ModuleAt m) o = (s : ModuleState) × (o ≡ Some (Module s))
OfKind (Switch LowNet s j) o = (t : LowState) × (o ≡ Some (Low t))
OfKind (Switch CombNet s j) o = (t : CombState) × (o ≡ Some (Comb t))

abbrev pub Whole : Project → List MachineState → Type 0
Whole P S = (x : Component) → Exists P.k x → OfKind x (state_at P S x)

-- a component's state after a cycle
pub after_cycle : (P : Project) (S : List MachineState) (x : Component) → Exists P.k x
    → state_at P (cycle P S) x ≡ option_map (part_of P (moves P S) (Some x)) (state_at P S x)
after_cycle P S x e =
    let z : 0 + number_of P.k x ≡ number_of P.k x = omega arith in
    parts-get P (moves P S) 0 S (number_of P.k x)
    ∙ ap (λ c. option_map (λ s. part_of P (moves P S) c s) (state_at P S x)) (ap (component_of P.k) z ∙ number_leads_back P.k x e)

kind_kept : (P : Project) (M : List Move) (x : Component) (o : Option MachineState) → OfKind x o → OfKind x (option_map (part_of P M (Some x)) o)
kind_kept P M (ProcAt p) o h = (_, ap (option_map (part_of P M (Some (ProcAt p)))) h.1)
kind_kept P M (ModuleAt m) o h = (_, ap (option_map (part_of P M (Some (ModuleAt m)))) h.1)
kind_kept P M (Switch LowNet s j) o h = (_, ap (option_map (part_of P M (Some (Switch LowNet s j)))) h.1)
kind_kept P M (Switch CombNet s j) o h = (_, ap (option_map (part_of P M (Some (Switch CombNet s j)))) h.1)

pub whole_cycle : (P : Project) (S : List MachineState) → Whole P S → Whole P (cycle P S)
whole_cycle P S w x e = subst (OfKind x) (sym (after_cycle P S x e)) (kind_kept P (moves P S) x (state_at P S x) (w x e))

module _ (P : Project) (S : List MachineState) (w : Whole P S) where
  abbrev pub proc_in : List MachineState → ℕ → ProcState
  proc_in S p = proc_of (state_at P S (ProcAt p))

  abbrev pub module_in : List MachineState → ℕ → ModuleState
  module_in S m = module_of (state_at P S (ModuleAt m))

  abbrev pub low_in : List MachineState → ℕ → ℕ → LowState
  low_in S s j = low_of (state_at P S (Switch LowNet s j))

  abbrev pub comb_in : List MachineState → ℕ → ℕ → CombState
  comb_in S s j = comb_of (state_at P S (Switch CombNet s j))

  pub proc_cycle : (p : ℕ) → p < lines P.k → proc_in (cycle P S) p ≡ proc_after (proc_settings P p (proc_in S p).index) (proc_traffic (moves P S) p) (proc_in S p)
  proc_cycle p h = let e = (w (ProcAt p) h).1 in ap proc_of (after_cycle P S (ProcAt p) h) ∙ rw e refl

  pub module_cycle : (m : ℕ) → m < lines P.k → module_in (cycle P S) m ≡ module_after (depth_of P ModuleQueue) (module_traffic (moves P S) P.k m) (module_in S m)
  module_cycle m h = let e = (w (ModuleAt m) h).1 in ap module_of (after_cycle P S (ModuleAt m) h) ∙ rw e refl

  pub low_cycle : (s j : ℕ) → s < P.k → j < half P.k → low_in (cycle P S) s j ≡ low_after (P.k - 1 - s) (switch_traffic (moves P S) P.k LowNet s j) (low_in S s j)
  low_cycle s j a b = let e = (w (Switch LowNet s j) (a, b)).1 in ap low_of (after_cycle P S (Switch LowNet s j) (a, b)) ∙ rw e refl

  pub comb_cycle : (s j : ℕ) → s < P.k → j < half P.k → comb_in (cycle P S) s j ≡ comb_after (comb_settings P s) (switch_traffic (moves P S) P.k CombNet s j) (comb_in S s j)
  comb_cycle s j a b = let e = (w (Switch CombNet s j) (a, b)).1 in ap comb_of (after_cycle P S (Switch CombNet s j) (a, b)) ∙ rw e refl
