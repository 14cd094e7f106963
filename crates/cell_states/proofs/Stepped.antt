-- States that words and a memory tell, and the run's next ones.
use Rattle.std.proofs.Common.{◌≡◌, ℕ, zero, suc, ◌-◌, ◌<◌, ◌∙◌, sym, ap, arith, map}
use Rattle.grid_law.specs.Rules.{Rules}
use Rattle.grid_law.specs.Codec.{Codec, IsTold}
use Rattle.grid_law.specs.Run.{run}

module _ {State Memory : Type 0} (C : Codec State Memory) where
  -- states of the same words and the same memory are the same, where these tell them
  pub same_told : (x y : State) → IsTold C x → IsTold C y → C.words y ≡ C.words x → C.memory y ≡ C.memory x → y ≡ x
  same_told x y told_x told_y words memory = sym told_y ∙ ap (λ ws. C.state ws (C.memory y)) words ∙ ap (C.state (C.words x)) memory ∙ told_x

module _ {State Slots Slot : Type 0} (R : Rules State Slots Slot) (s : Slots) where
  -- the step of the run's states is the run's next state
  pub run_steps : (t c : ℕ) → 0 < t → R.step s (map (run R s (t - 1)) (R.near s c)) c ≡ run R s t c
  run_steps zero c h = absurd (omega (arith, h))
  run_steps (suc t) c h = let back : suc t - 1 ≡ t = omega arith in ap (λ n. R.step s (map (run R s n) (R.near s c)) c) back
