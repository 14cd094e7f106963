-- The run goes on from one cycle to the next.
use Rattle.std.proofs.Common.{◌≡◌, ℕ, zero, suc, ◌+◌, ◌-◌, ◌<◌, ◌∙◌, sym, ap, refl, arith, true, eqb, List, [], ◌∷◌, map}
use Rattle.std.proofs.lemmas.Bool.{eq-eqb}
use Rattle.grid_law.specs.Rules.{Rules}
use Rattle.grid_law.specs.Run.{run}
use Rattle.cell_states.specs.Near.{has}
use Rattle.cell_states.proofs.Cases.{or_left, or_right}

map_same : {X : Type 0} (f g : ℕ → X) (ms : List ℕ) → ((m : ℕ) → has ms m ≡ true → f m ≡ g m) → map f ms ≡ map g ms
map_same f g [] h = refl
map_same f g (m ∷ ms) h = rw (h m (or_left (eqb m m) (has ms m) (eq-eqb m m refl)), map_same f g ms (λ k e. h k (or_right (eqb m k) (has ms k) e))) refl

module _ {State Slots Slot : Type 0} (R : Rules State Slots Slot) (s : Slots) where
  run_steps : (t c : ℕ) → 0 < t → run R s t c ≡ R.step s (map (run R s (t - 1)) (R.near s c)) c
  run_steps zero c h = absurd (omega (arith, h))
  run_steps (suc t) c h = let e : t ≡ suc t - 1 = omega arith in ap (λ n. R.step s (map (run R s n) (R.near s c)) c) e

  -- a component stays where those near it stayed one cycle earlier
  pub run_stays : (t c : ℕ) → 0 < t → ((m : ℕ) → has (R.near s c) m ≡ true → run R s t m ≡ run R s (t - 1) m) → run R s (t + 1) c ≡ run R s t c
  run_stays t c h same =
      let back : (t + 1) - 1 ≡ t = omega arith in
      let later : run R s (t + 1) c ≡ R.step s (map (run R s t) (R.near s c)) c = run_steps (t + 1) c (omega arith) ∙ ap (λ n. R.step s (map (run R s n) (R.near s c)) c) back in
      later ∙ ap (λ xs. R.step s xs c) (map_same (run R s t) (run R s (t - 1)) (R.near s c) same) ∙ sym (run_steps t c h)
