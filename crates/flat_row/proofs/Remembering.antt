-- Other words of memory are put into a row, and all other states stay.
use Rattle.std.proofs.Common.{◌≡◌, ℕ, ◌<◌, List, [], length, refl, ap, sym, subst, Some, Result, Ok, Err, OnOk, OnErr}
use Rattle.std.proofs.Math.ListN.{set}
use Rattle.std.proofs.lemmas.List.{get_or-set_same, get_or-set_other}
use Rattle.omega_net.specs.declared.component.Net.TheVariants.{Low as LowNet, Comb as CombNet}
use Rattle.omega_net.specs.declared.component.Component.{Component}
use Rattle.omega_net.specs.declared.component.Component.TheVariants.{Proc as ProcAt, Module as ModuleAt, Switch}
use Rattle.omega_net.specs.Numbers.{Exists}
use Rattle.mem_module.specs.declared.words.Stored.{Stored}
use Rattle.machine_cells.specs.declared.state.MachineState.TheVariants.{Module}
use Rattle.machine_cells.specs.Words.{with_memory}
use Rattle.flat_row.specs.Row.{Arrays, module_of, state_of}
use Rattle.flat_row.specs.Loading.{OnlyState}

-- the row in which these are a module's words of memory
abbrev pub remembering : Arrays → ℕ → List Stored → Arrays
remembering R m ws = record R { words = set R.words m ws }

pub memory_put : (R : Arrays) (m : ℕ) (ws : List Stored) → m < length R.words → state_of (remembering R m ws) (Some (ModuleAt m)) ≡ with_memory ws (state_of R (Some (ModuleAt m)))
memory_put R m ws h = ap (λ v. Module (record (module_of R m) { words = v })) (get_or-set_same R.words m ws [] h)

pub only_memory : (R : Arrays) (m : ℕ) (ws : List Stored) → OnlyState (ModuleAt m) R (remembering R m ws)
only_memory R m ws = record {
  size = refl;
  others = others;
  of = λ P o. record { size = o.size; low = o.low; comb = o.comb; rest = o.rest };
}
  where
    others : (d : Component) → Exists R.k d → (d ≡ ModuleAt m → ⊥) → state_of (remembering R m ws) (Some d) ≡ state_of R (Some d)
    others (ProcAt p) e ne = refl
    others (ModuleAt n) e ne = ap (λ v. Module (record (module_of R n) { words = v })) (get_or-set_other R.words m n ws [] (λ s. ne (ap ModuleAt s)))
    others (Switch LowNet s j) e ne = refl
    others (Switch CombNet s j) e ne = refl

pub only_itself : (R : Arrays) (c : Component) → OnlyState c R R
only_itself R c = record { size = refl; others = λ d e ne. refl; of = λ P o. o }

-- where the growth is refused nothing is changed
pub only_if_grown : {A E : Type 0} (r : Result A E) (R new : Arrays) (m : ℕ) (ws : List Stored) → OnOk r (new ≡ remembering R m ws) → OnErr r (new ≡ R) → OnlyState (ModuleAt m) R new
only_if_grown (Ok x) R new m ws ok err = subst (λ (S : Arrays). OnlyState (ModuleAt m) R S) (sym ok) (only_memory R m ws)
only_if_grown (Err x) R new m ws ok err = subst (λ (S : Arrays). OnlyState (ModuleAt m) R S) (sym err) (only_itself R (ModuleAt m))
