-- A run, cycle by cycle, and what its components show.
use Rattle.std.proofs.Common.{◌≡◌, ℕ, suc, ◌+◌, ◌<◌, List, sym, ap, ◌∙◌, subst, Some, arith}
use Rattle.std.specs.Prelude.{slice_get, option_map, option_and_then}
use Rattle.std.proofs.lemmas.Option.{slice_get-map}
use Rattle.omega_net.specs.declared.component.Net.{Net}
use Rattle.omega_net.specs.declared.component.Component.{Component}
use Rattle.omega_net.specs.declared.component.Component.TheVariants.{Proc as ProcAt, Module as ModuleAt, Switch}
use Rattle.omega_net.specs.Numbers.{lines, half, components, number_of, component_of, Exists}
use Rattle.omega_net.specs.Wires.{below}
use Rattle.omega_net.proofs.Numbering.{number_within, number_leads_back}
use Rattle.project_book.specs.Project.{Project}
use Rattle.machine_cells.specs.declared.state.MachineState.{MachineState}
use Rattle.machine_cells.specs.declared.state.MachineState.TheVariants.{Proc, Module}
use Rattle.machine_cells.specs.Cycle.{cycle}
use Rattle.machine_cells.specs.Run.{first_states, run}
use Rattle.machine_cells.specs.Runs.{state_in}
use Rattle.machine_cells.proofs.Runs.{below-get, later-suc, run_from-get}
use Rattle.flat_row.specs.Row.{IsRowOf, state_of, states_of, proc_of, module_of}
use Rattle.run_reports.specs.declared.runner.Runner.{Runner}
use Rattle.run_reports.specs.Runners.{IsAt}

pub at_start : (P : Project) (r : Runner) → r.cycle ≡ 0 → states_of r.row ≡ first_states P → IsRowOf P r.row → IsAt P r
at_start P r first states of = record {
  within = omega (arith, first);
  of = of;
  states = ap (slice_get (run P)) first ∙ run_from-get P (first_states P) P.horizon 0 (omega arith) ∙ ap Some (sym states);
}

pub at_next : (P : Project) (r new : Runner) → IsAt P r → r.cycle < P.horizon → new.cycle ≡ r.cycle + 1
    → states_of new.row ≡ cycle P (states_of r.row) → IsRowOf P new.row → IsAt P new
at_next P r new at more next states of = record {
  within = omega (arith, more, next);
  of = of;
  states = ap (slice_get (run P)) is_next ∙ run_from-get P (first_states P) P.horizon (suc r.cycle) (omega (arith, more))
      ∙ ap Some (later-suc P r.cycle (first_states P) ∙ ap (cycle P) (some_is (sym (run_from-get P (first_states P) P.horizon r.cycle at.within) ∙ at.states)) ∙ sym states);
}
  where
    is_next : new.cycle ≡ suc r.cycle
    is_next = omega (arith, next)

    some_is : {X : Type 0} {x y : X} → Some x ≡ Some y → x ≡ y
    some_is h = cc

module _ (P : Project) (r : Runner) (at : IsAt P r) where
  -- the state of a component, by its number
  pub shows_at : (c : ℕ) → c < components P.k → state_in (run P) r.cycle c ≡ Some (state_of r.row (component_of P.k c))
  shows_at c there =
      let within : c < components r.row.k = subst (λ (k : ℕ). c < components k) (sym at.of.size) there in
      ap (λ o. option_and_then (λ (S : List MachineState). slice_get S c) o) at.states
      ∙ slice_get-map (λ n. state_of r.row (component_of r.row.k n)) (below (components r.row.k)) c
      ∙ ap (λ o. option_map (λ n. state_of r.row (component_of r.row.k n)) o) (below-get (components r.row.k) c within)
      ∙ ap (λ (k : ℕ). Some (state_of r.row (component_of k c))) at.of.size

  pub shows : (x : Component) → Exists P.k x → state_in (run P) r.cycle (number_of P.k x) ≡ Some (state_of r.row (Some x))
  shows x there = shows_at (number_of P.k x) (number_within P.k x there) ∙ ap (λ o. Some (state_of r.row o)) (number_leads_back P.k x there)

  pub proc_shows : (p : ℕ) → p < lines P.k → state_in (run P) r.cycle p ≡ Some (Proc (proc_of r.row p))
  proc_shows p there = shows (ProcAt p) there

  pub module_shows : (m : ℕ) → m < lines P.k → state_in (run P) r.cycle (lines P.k + m) ≡ Some (Module (module_of r.row m))
  module_shows m there = shows (ModuleAt m) there

  pub switch_shows : (net : Net) (s j : ℕ) → s < P.k → j < half P.k
      → state_in (run P) r.cycle (number_of P.k (Switch net s j)) ≡ Some (state_of r.row (Some (Switch net s j)))
  switch_shows net s j a b = shows (Switch net s j) (a, b)
