-- Nothing in this file needs believing: it is proofs, which stand here since a definition of `specs/` cites them.
-- Laws of the numbers of components.
use Rattle.std.proofs.Common.{◌≡◌, ℕ, Bool, true, false, refl, sym, ◌∙◌, subst, None, Some, arith}
use Rattle.std.specs.Prelude.{nat_lt}
use Rattle.std.proofs.lemmas.Bool.Decides.{nat_tests}
use Rattle.omega_net.specs.declared.component.Net.TheVariants.{Low, Comb}
use Rattle.omega_net.specs.declared.component.Component.{Component}
use Rattle.omega_net.specs.Numbers.{lines, components, first_switch, Exists, component_of}
use Rattle.omega_net.proofs.Numbering.{Has, component_has}

some_same : {X : Type 0} {x y : X} → Some x ≡ Some y → x ≡ y
some_same e = cc

none_some : {X : Type 0} {x : X} → None ≡ Some x → ⊥
none_some e = cc

pub no_component : (k n : ℕ) → nat_lt n (components k) ≡ false → component_of k n ≡ None
no_component k n past =
    let a : nat_lt n (lines k) ≡ false = grind (arith, nat_tests) in
    let b : nat_lt n (first_switch k Low) ≡ false = grind (arith, nat_tests) in
    let c : nat_lt n (first_switch k Comb) ≡ false = grind (arith, nat_tests) in
    rw (a, b, c, past) refl

-- every component that a number names is there
pub component_there : (k n : ℕ) (x : Component) → component_of k n ≡ Some x → Exists k x
component_there k n x e = by_test (nat_lt n (components k)) refl
  where
    same_there : (y : Component) → Has k n (component_of k n) y → Exists k x
    same_there y h = let same : y ≡ x = some_same (sym h.is ∙ e) in let E : Component → Type 0 = λ z. Exists k z in subst E same h.there

    by_test : (t : Bool) → nat_lt n (components k) ≡ t → Exists k x
    by_test true lt = let h = component_has k n (grind (arith, nat_tests)) in same_there h.0 h.1
    by_test false past = absurd (none_some (sym (no_component k n past) ∙ e))
