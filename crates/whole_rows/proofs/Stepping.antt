-- The row after a step beside the cells of the grid.
use Rattle.std.proofs.Common.{◌≡◌, ℕ, ◌<◌, List, [], ◌∷◌, length, get_or, map, refl, ap, sym, ◌∙◌, subst, Bool, true, false, Some}
use Rattle.std.specs.Prelude.{slice_get, option_map, not}
use Rattle.std.specs.List.{AllByRecursion, cons_option}
use Rattle.std.proofs.lemmas.List.{length-map}
use Rattle.std.proofs.lemmas.List.Elements.{recursion_from_All}
use Rattle.std.proofs.lemmas.Option.{get_or_from_slice_get, slice_get-map}
use Rattle.omega_net.specs.declared.component.Component.{Component}
use Rattle.omega_net.specs.declared.component.Component.TheVariants.{Proc as ProcAt, Module as ModuleAt, Switch}
use Rattle.omega_net.specs.declared.component.Net.TheVariants.{Low as LowNet, Comb as CombNet}
use Rattle.omega_net.specs.Numbers.{components, component_of, number_of, Exists}
use Rattle.omega_net.specs.Wires.{below}
use Rattle.omega_net.proofs.Numbering.{component_has}
use Rattle.project_book.specs.Project.{Project}
use Rattle.machine_cells.specs.declared.state.MachineState.{MachineState}
use Rattle.machine_cells.specs.Cells.{states_at}
use Rattle.machine_cells.specs.Codec.{memory_in}
use Rattle.machine_cells.specs.Run.{first_states}
use Rattle.machine_cells.specs.Cycle.{cycle}
use Rattle.machine_cells.specs.GridRules.{rp3_rules}
use Rattle.machine_cells.specs.GridLaws.{rp3_laws}
use Rattle.machine_cells.proofs.Rows.{cells_are_parts, starts_are_parts}
use Rattle.machine_cells.proofs.Runs.{below-get, length-below}
use Rattle.flat_row.specs.declared.changed.Changed.{Changed}
use Rattle.flat_row.specs.Row.{Arrays, IsRowOf, state_of, states_of}
use Rattle.flat_row.specs.Changed.{SameOutside, TellsMemory, has_changed}
use Rattle.whole_rows.specs.Rows.{state_in, is_outside, is_still, wrote_in, has_written}

-- the states at numbers that are there
pub states_of_all : (S : List MachineState) (f : ℕ → MachineState) (n : ℕ) → ((c : ℕ) → c < n → slice_get S c ≡ Some (f c)) → (cs : List ℕ) → AllByRecursion (λ m. m < n) cs → states_at S cs ≡ map f cs
states_of_all S f n h [] a = refl
states_of_all S f n h (c ∷ cs) a = ap (λ o. cons_option o (states_at S cs)) (h c a.0) ∙ ap (λ xs. f c ∷ xs) (states_of_all S f n h cs a.1)

-- the state of a number in a row
pub get_state : (R : Arrays) (c : ℕ) → c < components R.k → slice_get (states_of R) c ≡ Some (state_in R c)
get_state R c h = slice_get-map (λ d. state_of R (component_of R.k d)) (below (components R.k)) c ∙ ap (option_map (λ d. state_of R (component_of R.k d))) (below-get (components R.k) c h)

pub some_is : {X : Type 0} {x y : X} → Some x ≡ Some y → x ≡ y
some_is h = cc

-- a row before the first cycle
pub starts : (P : Project) (R : Arrays) → IsRowOf P R → states_of R ≡ first_states P → (c : ℕ) → c < components P.k → state_in R c ≡ rp3_rules.start P c
starts P R of first c h = some_is (sym (get_state R c (subst (λ k. c < components k) (sym of.size) h)) ∙ ap (λ S. slice_get S c) first ∙ starts_are_parts P c h)

-- the state of a number, where that is a component's
pub state_is : (P : Project) (R : Arrays) → R.k ≡ P.k → (c : ℕ) (x : Component) → component_of P.k c ≡ Some x → state_in R c ≡ state_of R (Some x)
state_is P R size c x is = ap (state_of R) (ap (λ k. component_of k c) size ∙ is)

-- the component at a place of the list of all is that of its number
pub listed : (k c : ℕ) (items : List Component) (x : Component) → c < components k → slice_get items c ≡ component_of k c → x ≡ get_or items c x → component_of k c ≡ Some x
listed k c items x h each at =
    let has = component_has k c h in
    has.1.is ∙ ap Some (sym (at ∙ get_or_from_slice_get items c has.0 x (each ∙ has.1.is)))

-- the component of a number is there, and has that number
pub component_there : (k c : ℕ) (x : Component) → c < components k → component_of k c ≡ Some x → Exists k x
component_there k c x h is = let has = component_has k c h in subst (Exists k) (some_is (sym has.1.is ∙ is)) has.1.there

pub component_number : (k c : ℕ) (x : Component) → c < components k → component_of k c ≡ Some x → number_of k x ≡ c
component_number k c x h is = let has = component_has k c h in ap (number_of k) (some_is (sym is ∙ has.1.is)) ∙ has.1.number

module _ (P : Project) (R N : Arrays) (of : IsRowOf P R) (new_of : IsRowOf P N) (stepped : states_of N ≡ cycle P (states_of R)) where
  size : length (states_of R) ≡ components P.k
  size = length-map (below (components R.k)) (λ d. state_of R (component_of R.k d)) ∙ length-below (components R.k) ∙ ap components of.size

  before : (c : ℕ) → c < components P.k → slice_get (states_of R) c ≡ Some (state_in R c)
  before c h = get_state R c (subst (λ k. c < components k) (sym of.size) h)

  -- the new row holds the step of the near states
  pub steps : (c : ℕ) → c < components P.k → state_in N c ≡ rp3_rules.step P (map (state_in R) (rp3_rules.near P c)) c
  steps c h =
      let near : states_at (states_of R) (rp3_rules.near P c) ≡ map (state_in R) (rp3_rules.near P c) =
      states_of_all (states_of R) (state_in R) (components P.k) before (rp3_rules.near P c) (recursion_from_All (λ m. m < components P.k) (rp3_rules.near P c) (rp3_laws.near_within P c h)) in
      some_is (sym (get_state N c (subst (λ k. c < components k) (sym new_of.size) h)) ∙ ap (λ S. slice_get S c) stepped ∙ cells_are_parts P (states_of R) size c h ∙ ap (λ xs. Some (rp3_rules.step P xs c)) near)

module _ (P : Project) (R N : Arrays) (of : IsRowOf P R) (new_of : IsRowOf P N) (changed : Changed) (c : ℕ) (h : c < components P.k) where
  old_is : (x : Component) → component_of P.k c ≡ Some x → state_in R c ≡ state_of R (Some x)
  old_is = state_is P R of.size c

  new_is : (x : Component) → component_of P.k c ≡ Some x → state_in N c ≡ state_of N (Some x)
  new_is = state_is P N new_of.size c

  not_true : (b : Bool) → not b ≡ true → b ≡ false
  not_true true e = cc
  not_true false e = refl

  -- a component outside of what has changed is as it was
  pub stays : SameOutside P.k changed R N → is_still changed P c ≡ true → state_in N c ≡ state_in R c
  stays same still =
      let has = component_has P.k c h in
      let out : has_changed P.k changed has.0 ≡ false = not_true _ (sym (ap (is_outside P.k changed) has.1.is) ∙ still) in
      new_is has.0 has.1.is ∙ same has.0 has.1.there out ∙ sym (old_is has.0 has.1.is)

  keeps_at : (x : Component) → Exists P.k x → TellsMemory P.k changed R N → wrote_in changed (Some x) ≡ false → memory_in (state_of N (Some x)) ≡ memory_in (state_of R (Some x))
  keeps_at (ProcAt p) there tells e = refl
  keeps_at (ModuleAt m) there tells e = ap Some (tells.same m there e)
  keeps_at (Switch LowNet s j) there tells e = refl
  keeps_at (Switch CombNet s j) there tells e = refl

  -- and one that hasn't written has the memory that it had
  pub keeps : TellsMemory P.k changed R N → has_written changed P c ≡ false → memory_in (state_in N c) ≡ memory_in (state_in R c)
  keeps tells e =
      let has = component_has P.k c h in
      ap memory_in (new_is has.0 has.1.is) ∙ keeps_at has.0 has.1.there tells (sym (ap (wrote_in changed) has.1.is) ∙ e) ∙ sym (ap memory_in (old_is has.0 has.1.is))
