-- The states of a flat row, as an order looks at them.
use Rattle.std.proofs.Common.{◌≡◌, ◌↔◌, ◌⊎◌, inl, inr, ℕ, ◌<◌, ◌≤◌, length, get_or, false, true, refl, ap, sym, ◌∙◌, subst, Option, None, Some, option_map}
use Rattle.std.specs.Prelude.{IsSome, slice_get, option_and_then}
use Rattle.std.proofs.lemmas.List.{length-map}
use Rattle.std.proofs.lemmas.Option.{slice_get-map, slice_get_cases}
use Rattle.omega_net.specs.declared.component.Net.TheVariants.{Low as LowNet, Comb as CombNet}
use Rattle.omega_net.specs.declared.component.Component.{Component}
use Rattle.omega_net.specs.declared.component.Component.TheVariants.{Proc as ProcAt, Module as ModuleAt, Switch}
use Rattle.omega_net.specs.declared.message.Tag.{Tag}
use Rattle.omega_net.specs.Numbers.{components, component_of}
use Rattle.omega_net.specs.Wires.{below}
use Rattle.mem_module.specs.MemModule.{served_net}
use Rattle.machine_cells.specs.declared.state.MachineState.{MachineState}
use Rattle.machine_cells.proofs.Runs.{below-get, length-below}
use Rattle.flat_row.specs.Labels.{switch_label}
use Rattle.flat_row.specs.Row.{Arrays, buffers_at, module_of, state_of, states_of, wait_of}
use Rattle.serial_order.specs.Looking.{module_number, request_of, second_in, served_request, switch_place}
use Rattle.serial_order.specs.Order.{first_entry}

module _ (R : Arrays) (c : ℕ) (o : Option Component) (is : o ≡ component_of R.k c) (there : IsSome o ↔ (c < components R.k)) where
  many : length (states_of R) ≡ components R.k
  many = length-map (below (components R.k)) (λ n. state_of R (component_of R.k n)) ∙ length-below (components R.k)

  -- the state of a component, by its number
  shown : (x : Component) → o ≡ Some x → slice_get (states_of R) c ≡ Some (state_of R (Some x))
  shown x e =
      slice_get-map (λ n. state_of R (component_of R.k n)) (below (components R.k)) c
      ∙ ap (λ n. option_map (λ m. state_of R (component_of R.k m)) n) (below-get (components R.k) c (there.0 (subst IsSome (sym e) refl)))
      ∙ ap (λ y. Some (state_of R y)) (sym is ∙ e)

  -- there is no other one
  none : o ≡ None → slice_get (states_of R) c ≡ None
  none e = by_cases (slice_get_cases (states_of R) c).1
    where
      by_cases : ((x : MachineState) × (c < length (states_of R)) × (slice_get (states_of R) c ≡ Some x) × (get_or (states_of R) c x ≡ x)) ⊎ ((length (states_of R) ≤ c) × (slice_get (states_of R) c ≡ None)) → slice_get (states_of R) c ≡ None
      by_cases (inl (x, within, is_some, value)) = let no : false ≡ true = subst IsSome e (there.1 (subst (λ n. c < n) many within)) in cc
      by_cases (inr (beyond, is_none)) = is_none

  -- a module serves what the row says, and another component nothing
  pub serves : (depth : ℕ) → served_request depth (slice_get (states_of R) c) ≡ option_and_then (λ m. request_of (module_of R m) (served_net (module_of R m) depth)) (module_number o)
  serves depth = from o refl
    where
      from : (x : Option Component) → o ≡ x → served_request depth (slice_get (states_of R) c) ≡ option_and_then (λ m. request_of (module_of R m) (served_net (module_of R m) depth)) (module_number x)
      from None e = ap (served_request depth) (none e)
      from (Some (ProcAt p)) e = ap (served_request depth) (shown (ProcAt p) e)
      from (Some (ModuleAt m)) e = ap (served_request depth) (shown (ModuleAt m) e)
      from (Some (Switch LowNet s j)) e = ap (served_request depth) (shown (Switch LowNet s j) e)
      from (Some (Switch CombNet s j)) e = ap (served_request depth) (shown (Switch CombNet s j) e)

  -- in a combining switch waits what the row says, and in another component nothing
  pub waits : (tag : Tag) → second_in (slice_get (states_of R) c) tag ≡ option_and_then (λ p. option_map (λ e. e.second) (first_entry tag (wait_of (buffers_at R p.0) (switch_label R.k p.0 p.1)).items)) (switch_place o)
  waits tag = from o refl
    where
      from : (x : Option Component) → o ≡ x → second_in (slice_get (states_of R) c) tag ≡ option_and_then (λ p. option_map (λ e. e.second) (first_entry tag (wait_of (buffers_at R p.0) (switch_label R.k p.0 p.1)).items)) (switch_place x)
      from None e = ap (λ s. second_in s tag) (none e)
      from (Some (ProcAt p)) e = ap (λ s. second_in s tag) (shown (ProcAt p) e)
      from (Some (ModuleAt m)) e = ap (λ s. second_in s tag) (shown (ModuleAt m) e)
      from (Some (Switch LowNet s j)) e = ap (λ s. second_in s tag) (shown (Switch LowNet s j) e)
      from (Some (Switch CombNet s j)) e = ap (λ s. second_in s tag) (shown (Switch CombNet s j) e)
