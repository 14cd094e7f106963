-- The cells of a row into which a state's words are put, or its memory.
use Rattle.std.proofs.Common.{◌≡◌, ℕ, ◌<◌, List, ap, sym, ◌∙◌, subst, refl, Option, None, Some}
use Rattle.omega_net.specs.declared.component.Component.{Component}
use Rattle.omega_net.specs.declared.component.Component.TheVariants.{Proc as ProcAt, Module as ModuleAt, Switch}
use Rattle.omega_net.specs.declared.component.Net.TheVariants.{Low as LowNet, Comb as CombNet}
use Rattle.omega_net.specs.Numbers.{components, component_of, number_of, Exists}
use Rattle.omega_net.proofs.Numbering.{component_has}
use Rattle.mem_module.specs.declared.words.Stored.{Stored}
use Rattle.project_book.specs.Project.{Project}
use Rattle.machine_cells.specs.declared.state.MachineState.{MachineState}
use Rattle.machine_cells.specs.declared.state.MachineState.TheVariants.{Proc, Module, Low, Comb}
use Rattle.machine_cells.specs.Words.{words_of, memory_of, with_memory}
use Rattle.machine_cells.specs.Codec.{memory_in, rp3_codec}
use Rattle.flat_row.specs.Row.{Arrays, IsRowOf, state_of}
use Rattle.flat_row.specs.Loading.{CanHold}
use Rattle.cell_states.specs.Codes.{IsCodeOf}
use Rattle.whole_rows.specs.Rows.{state_in}
use Rattle.whole_rows.proofs.Stepping.{state_is}

-- a memory is in no word
no_words : (memory : List Stored) (s : MachineState) → words_of (with_memory memory s) ≡ words_of s
no_words memory (Proc u) = refl
no_words memory (Module u) = refl
no_words memory (Low u) = refl
no_words memory (Comb u) = refl

-- a state that a row can hold has the memory that was there
same_memory : (R : Arrays) (x : Component) (s : MachineState) → CanHold x s → memory_in (with_memory (memory_of (state_of R (Some x))) s) ≡ memory_in (state_of R (Some x))
same_memory R (ProcAt p) (Proc u) can = refl
same_memory R (ProcAt p) (Module u) can = absurd can
same_memory R (ProcAt p) (Low u) can = absurd can
same_memory R (ProcAt p) (Comb u) can = absurd can
same_memory R (ModuleAt m) (Proc u) can = absurd can
same_memory R (ModuleAt m) (Module u) can = refl
same_memory R (ModuleAt m) (Low u) can = absurd can
same_memory R (ModuleAt m) (Comb u) can = absurd can
same_memory R (Switch LowNet i j) (Proc u) can = absurd can
same_memory R (Switch LowNet i j) (Module u) can = absurd can
same_memory R (Switch LowNet i j) (Low u) can = refl
same_memory R (Switch LowNet i j) (Comb u) can = absurd can
same_memory R (Switch CombNet i j) (Proc u) can = absurd can
same_memory R (Switch CombNet i j) (Module u) can = absurd can
same_memory R (Switch CombNet i j) (Low u) can = absurd can
same_memory R (Switch CombNet i j) (Comb u) can = refl

-- the words are the state's, and the memory is the one that was there
loaded_at : (R N : Arrays) (x : Component) (ws : List ℕ) (s : MachineState) → CanHold x s → words_of s ≡ ws → state_of N (Some x) ≡ with_memory (memory_of (state_of R (Some x))) s
    → IsCodeOf rp3_codec ws (memory_in (state_of R (Some x))) (state_of N (Some x))
loaded_at R N x ws s can words is = record {
  words_are = ap words_of is ∙ no_words (memory_of (state_of R (Some x))) s ∙ words;
  memory_is = ap memory_in is ∙ same_memory R x s can;
}

module _ (P : Project) (R N : Arrays) (x : Component) (c : ℕ) (of : IsRowOf P R) (size : N.k ≡ P.k) where
  pub loads : component_of P.k c ≡ Some x → (ws : List ℕ) (s : MachineState) → CanHold x s → words_of s ≡ ws → state_of N (Some x) ≡ with_memory (memory_of (state_of R (Some x))) s
      → IsCodeOf rp3_codec ws (memory_in (state_in R c)) (state_in N c)
  loads is ws s can words loaded =
      subst (λ (y : MachineState). IsCodeOf rp3_codec ws (memory_in (state_in R c)) y) (sym (state_is P N size c x is))
      (subst (λ (y : MachineState). IsCodeOf rp3_codec ws (memory_in y) (state_of N (Some x))) (sym (state_is P R of.size c x is)) (loaded_at R N x ws s can words loaded))

  -- what other cells hold they still hold
  pub others_hold : number_of P.k x ≡ c → ((y : Component) → Exists R.k y → (y ≡ x → ⊥) → state_of N (Some y) ≡ state_of R (Some y)) → (d : ℕ) → d < components P.k → (d ≡ c → ⊥) → state_in N d ≡ state_in R d
  others_hold number others d h ne =
      let has = component_has P.k d h in
      state_is P N size d has.0 has.1.is
      ∙ others has.0 (subst (λ k. Exists k has.0) (sym of.size) has.1.there) (λ e. ne (sym has.1.number ∙ ap (number_of P.k) e ∙ number))
      ∙ sym (state_is P R of.size d has.0 has.1.is)

-- the same states under another project of as many processors
pub follows : (R N : Arrays) → N.k ≡ R.k → ((y : Component) → state_of N (Some y) ≡ state_of R (Some y)) → (c : ℕ) → state_in N c ≡ state_in R c
follows R N size each c = ap (λ k. state_of N (component_of k c)) size ∙ by_there (component_of R.k c)
  where
    by_there : (o : Option Component) → state_of N o ≡ state_of R o
    by_there None = refl
    by_there (Some y) = each y
