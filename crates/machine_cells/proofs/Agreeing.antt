-- What the test of agreement answers, from what it asks of each slot.
use Rattle.std.proofs.Common.{◌≡◌, ℕ, Bool, List, [], ◌∷◌, sym, subst, Option, None, Some}
use Rattle.std.specs.Prelude.{◌↔◌, IsTrue, slice_get}
use Rattle.omega_net.specs.declared.component.Component.{Component}
use Rattle.omega_net.specs.Numbers.{component_of}
use Rattle.grid_law.specs.Rules.{Agrees}
use Rattle.project_book.specs.Project.{Project}
use Rattle.machine_cells.specs.declared.state.MachineState.{MachineState}
use Rattle.machine_cells.specs.Reads.{later_reads, SameAtAll, SameStart}
use Rattle.machine_cells.specs.GridRules.{rp3_rules}
use Rattle.machine_cells.specs.laws.Grid.{agrees_later, later_agrees, agrees_start, start_agrees}

pub agreeing_later : (P Q : Project) (N : List MachineState) (c : ℕ) (x : Component) (own : MachineState) (r : Bool) → P.k ≡ Q.k → component_of P.k c ≡ Some x → slice_get N 0 ≡ Some own
    → (IsTrue r ↔ SameAtAll P Q (later_reads P (Some x) own)) → IsTrue r ↔ Agrees rp3_rules P Q N c
agreeing_later P Q [] c x own r k e first h = absurd (none_some first)
  where
    none_some : {X : Type 0} {y : X} → None ≡ Some y → ⊥
    none_some f = cc
agreeing_later P Q (n ∷ N) c x own r k e first h = (
  λ t. agrees_later P Q n N c k (subst F (sym e) (subst G (sym same) (h.0 t))),
  λ a. h.1 (subst G same (subst F e (later_agrees P Q n N c a))),
)
  where
    same : n ≡ own
    same = cc

    F : Option Component → Type 0
    F o = SameAtAll P Q (later_reads P o n)

    G : MachineState → Type 0
    G s = SameAtAll P Q (later_reads P (Some x) s)

pub agreeing_start : (P Q : Project) (N : List MachineState) (c : ℕ) (x : Component) (r : Bool) → P.k ≡ Q.k → component_of P.k c ≡ Some x → slice_get N 0 ≡ None
    → (IsTrue r ↔ SameStart P Q (Some x)) → IsTrue r ↔ Agrees rp3_rules P Q N c
agreeing_start P Q [] c x r k e first h = (
  λ t. agrees_start P Q c k (subst F (sym e) (h.0 t)),
  λ a. h.1 (subst F e (start_agrees P Q c a)),
)
  where
    F : Option Component → Type 0
    F o = SameStart P Q o
agreeing_start P Q (n ∷ N) c x r k e first h = absurd (some_none first)
  where
    some_none : {X : Type 0} {y : X} → Some y ≡ None → ⊥
    some_none f = cc
