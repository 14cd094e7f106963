-- Where a rate begins to be steady, one candidate after another.
use Rattle.std.proofs.Common.{◌≡◌, ℕ, suc, ◌+◌, ◌-◌, ◌*◌, ◌<◌, true, false, List, sym, ap, ◌∙◌, arith, refl}
use Rattle.experiments.specs.Steady.{first_steady, is_steady}

one_step : (flow : List ℕ) (cycles last n left : ℕ) → is_steady flow cycles left ≡ false
    → first_steady flow cycles last (suc n) left ≡ first_steady flow cycles last n (left + 16)
unfolding first_steady
one_step flow cycles last n left apart = rw apart refl

here : (flow : List ℕ) (cycles last n left : ℕ) → is_steady flow cycles left ≡ true → first_steady flow cycles last (suc n) left ≡ left
unfolding first_steady
here flow cycles last n left near = rw near refl

none_left : (flow : List ℕ) (cycles last left : ℕ) → first_steady flow cycles last 0 left ≡ last
unfolding first_steady
none_left flow cycles last left = refl

-- one candidate more that isn't steady
pub steady_next : (flow : List ℕ) (cycles last most i out : ℕ) → i < most → is_steady flow cycles (16 * (i + 1)) ≡ false
    → first_steady flow cycles last (most - i) (16 * (i + 1)) ≡ out → first_steady flow cycles last (most - (i + 1)) (16 * (i + 1 + 1)) ≡ out
steady_next flow cycles last most i out lt apart before =
    let left : most - i ≡ suc (most - (i + 1)) = omega arith in
    let more : 16 * (i + 1) + 16 ≡ 16 * (i + 1 + 1) = omega arith in
    sym (ap (first_steady flow cycles last (most - (i + 1))) more)
    ∙ (sym (one_step flow cycles last (most - (i + 1)) (16 * (i + 1)) apart)
    ∙ (sym (ap (λ n. first_steady flow cycles last n (16 * (i + 1))) left) ∙ before))

-- one that is
pub steady_here : (flow : List ℕ) (cycles last most i out : ℕ) → i < most → is_steady flow cycles (16 * (i + 1)) ≡ true
    → first_steady flow cycles last (most - i) (16 * (i + 1)) ≡ out → 16 * (i + 1) ≡ out
steady_here flow cycles last most i out lt near before =
    let left : most - i ≡ suc (most - (i + 1)) = omega arith in
    sym (here flow cycles last (most - (i + 1)) (16 * (i + 1)) near)
    ∙ (sym (ap (λ n. first_steady flow cycles last n (16 * (i + 1))) left) ∙ before)

-- and none
pub steady_never : (flow : List ℕ) (cycles last most i out : ℕ) → (i < most → ⊥) → first_steady flow cycles last (most - i) (16 * (i + 1)) ≡ out → last ≡ out
steady_never flow cycles last most i out ge before =
    let left : most - i ≡ 0 = omega arith in
    sym (none_left flow cycles last (16 * (i + 1)))
    ∙ (sym (ap (λ n. first_steady flow cycles last n (16 * (i + 1))) left) ∙ before)
