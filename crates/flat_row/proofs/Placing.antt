-- The states of all components, where only that of one is another one.
use Rattle.std.proofs.Common.{◌≡◌, ℕ, ◌<◌, Bool, true, false, length, get_or, refl, ap, sym, ◌∙◌, subst, Some}
use Rattle.std.specs.Prelude.{◌==◌, slice_get}
use Rattle.std.proofs.Math.ListN.{set, length-set}
use Rattle.std.proofs.lemmas.List.{ext_get_or, get_or-set_same, get_or-set_other}
use Rattle.std.proofs.lemmas.Option.{get_or_from_slice_get}
use Rattle.std.proofs.lemmas.Bool.{eqb-true, eq-eqb}
use Rattle.omega_net.specs.declared.component.Component.{Component}
use Rattle.omega_net.specs.Numbers.{Exists, components, component_of, number_of}
use Rattle.omega_net.proofs.Numbering.{Has, component_has, number_within}
use Rattle.ref_proc.specs.RefProc.{proc_start}
use Rattle.machine_cells.specs.declared.state.MachineState.{MachineState}
use Rattle.machine_cells.specs.declared.state.MachineState.TheVariants.{Proc}
use Rattle.flat_row.specs.Row.{Arrays, state_of, states_of}
use Rattle.flat_row.proofs.Holding.{state_there}
use Rattle.flat_row.proofs.Starting.{length_by}

abbrev nothing : MachineState
nothing = Proc proc_start

module _ (R N : Arrays) (c : Component) (st : MachineState) (same : N.k ≡ R.k) (exists : Exists R.k c) (here : state_of N (Some c) ≡ st)
    (others : (d : Component) → Exists R.k d → (d ≡ c → ⊥) → state_of N (Some d) ≡ state_of R (Some d)) where
  at_number : (A : Arrays) → A.k ≡ R.k → (x : Component) → Exists R.k x → get_or (states_of A) (number_of R.k x) nothing ≡ state_of A (Some x)
  at_number A e x there =
      get_or_from_slice_get (states_of A) (number_of R.k x) (state_of A (Some x)) nothing
      (ap (λ k. slice_get (states_of A) (number_of k x)) (sym e) ∙ state_there A x (subst (λ k. Exists k x) (sym e) there))

  long : (A : Arrays) → A.k ≡ R.k → length (states_of A) ≡ components R.k
  long A e = length_by (λ n. state_of A (component_of A.k n)) (components A.k) ∙ ap components e

  within : number_of R.k c < length (states_of R)
  within = subst (λ n. number_of R.k c < n) (sym (long R refl)) (number_within R.k c exists)

  by_component : (i : ℕ) (x : Component) → Has R.k i (component_of R.k i) x → (t : Bool) → (i == number_of R.k c) ≡ t
      → get_or (states_of N) i nothing ≡ get_or (set (states_of R) (number_of R.k c) st) i nothing
  by_component i x has_it true e =
      let it : i ≡ number_of R.k c = eqb-true i (number_of R.k c) e in
      ap (λ n. get_or (states_of N) n nothing) it ∙ at_number N same c exists ∙ here ∙ sym (get_or-set_same (states_of R) (number_of R.k c) st nothing within)
      ∙ ap (λ n. get_or (set (states_of R) (number_of R.k c) st) n nothing) (sym it)
  by_component i x has_it false e =
      let other : i ≡ number_of R.k c → ⊥ = λ f. false_true (sym e ∙ eq-eqb i (number_of R.k c) f) in
      ap (λ n. get_or (states_of N) n nothing) (sym has_it.number) ∙ at_number N same x has_it.there
      ∙ others x has_it.there (λ f. other (sym has_it.number ∙ ap (number_of R.k) f)) ∙ sym (at_number R refl x has_it.there)
      ∙ ap (λ n. get_or (states_of R) n nothing) has_it.number ∙ sym (get_or-set_other (states_of R) (number_of R.k c) i st nothing other)
    where
      false_true : false ≡ true → ⊥
      false_true e = cc

  pub states_put : states_of N ≡ set (states_of R) (number_of R.k c) st
  states_put =
      ext_get_or nothing (states_of N) (set (states_of R) (number_of R.k c) st) (long N same ∙ sym (length-set (states_of R) (number_of R.k c) st ∙ long R refl))
      (λ i h. by_component i (component_has R.k i (subst (λ n. i < n) (long N same) h)).0 (component_has R.k i (subst (λ n. i < n) (long N same) h)).1 (i == number_of R.k c) refl)
