-- What a head and the words after it say of the state that has these words.
use Rattle.std.proofs.Common.{◌≡◌, ℕ, List, drop, slice_index, ap, sym, ◌∙◌, subst, Some}
use Rattle.omega_net.specs.declared.component.Net.TheVariants.{Low as LowNet, Comb as CombNet}
use Rattle.omega_net.specs.declared.component.Component.{Component}
use Rattle.omega_net.specs.declared.component.Component.TheVariants.{Proc as ProcAt, Module as ModuleAt, Switch}
use Rattle.mem_module.specs.declared.words.Stored.{Stored}
use Rattle.machine_cells.specs.declared.state.MachineState.{MachineState}
use Rattle.machine_cells.specs.declared.state.MachineState.TheVariants.{Proc, Module, Low, Comb}
use Rattle.state_words.specs.Words.{proc_head, module_head, low_head, comb_head}
use Rattle.state_words.specs.Reading.{proc_from, module_from, low_from, comb_from}
use Rattle.machine_cells.specs.Words.{IsState, words_of, with_memory}
use Rattle.state_words.proofs.Stating.{proc_with, proc_head_is, module_with, module_head_is, low_with, low_head_is, comb_with, comb_head_is}
use Rattle.flat_row.specs.Row.{Arrays, module_of, proc_of, state_of}
use Rattle.flat_row.specs.Loading.{CanHold}

module _ (R : Arrays) (h : ℕ) (ws rest : List ℕ) (memory : List Stored) (h_is : h ≡ slice_index ws 0) (rest_is : rest ≡ drop 1 ws) where
  -- the row holds in the place of a component the state that has these words
  abbrev pub Told : Component → Type 0
  Told c = (s : MachineState) → IsState s → ws ≡ words_of s → CanHold c s → state_of R (Some c) ≡ with_memory memory s

  pub told_proc : (p : ℕ) → proc_of R p ≡ proc_from h rest → Told (ProcAt p)
  told_proc p e (Proc u) is w can =
      ap Proc (e ∙ ap (λ n. proc_from n rest) (h_is ∙ ap (λ v. slice_index v 0) w) ∙ ap (proc_from (proc_head u)) (rest_is ∙ ap (drop 1) w) ∙ proc_with (proc_head u) u (proc_head_is u is) is)
  told_proc p e (Module u) is w can = absurd can
  told_proc p e (Low u) is w can = absurd can
  told_proc p e (Comb u) is w can = absurd can

  pub told_module : (m : ℕ) → module_of R m ≡ module_from h rest memory → Told (ModuleAt m)
  told_module m e (Module u) is w can =
      ap Module (e ∙ ap (λ n. module_from n rest memory) (h_is ∙ ap (λ v. slice_index v 0) w) ∙ ap (λ v. module_from (module_head u) v memory) (rest_is ∙ ap (drop 1) w)
      ∙ module_with (module_head u) u memory (module_head_is u is) is)
  told_module m e (Proc u) is w can = absurd can
  told_module m e (Low u) is w can = absurd can
  told_module m e (Comb u) is w can = absurd can

  pub told_low : (s j : ℕ) → (CanHold (Switch LowNet s j) (Low (low_from h rest)) → state_of R (Some (Switch LowNet s j)) ≡ Low (low_from h rest)) → Told (Switch LowNet s j)
  told_low s j e (Low u) is w can =
      let same : low_from h rest ≡ u = ap (λ n. low_from n rest) (h_is ∙ ap (λ v. slice_index v 0) w) ∙ ap (low_from (low_head u)) (rest_is ∙ ap (drop 1) w) ∙ low_with (low_head u) u (low_head_is u is) is in
      e (subst (λ v. CanHold (Switch LowNet s j) (Low v)) (sym same) can) ∙ ap Low same
  told_low s j e (Proc u) is w can = absurd can
  told_low s j e (Module u) is w can = absurd can
  told_low s j e (Comb u) is w can = absurd can

  pub told_comb : (s j : ℕ) → (CanHold (Switch CombNet s j) (Comb (comb_from h rest)) → state_of R (Some (Switch CombNet s j)) ≡ Comb (comb_from h rest)) → Told (Switch CombNet s j)
  told_comb s j e (Comb u) is w can =
      let same : comb_from h rest ≡ u = ap (λ n. comb_from n rest) (h_is ∙ ap (λ v. slice_index v 0) w) ∙ ap (comb_from (comb_head u)) (rest_is ∙ ap (drop 1) w) ∙ comb_with (comb_head u) u (comb_head_is u is) is in
      e (subst (λ v. CanHold (Switch CombNet s j) (Comb v)) (sym same) can) ∙ ap Comb same
  told_comb s j e (Proc u) is w can = absurd can
  told_comb s j e (Module u) is w can = absurd can
  told_comb s j e (Low u) is w can = absurd can
