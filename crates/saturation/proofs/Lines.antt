-- The lines of a stage that lead to a module.
use Rattle.std.proofs.Common.{◌≡◌, ℕ, ◌+◌, ◌-◌, ◌*◌, ◌/◌, ◌%◌, ◌^◌, ◌<◌, ◌≤◌, Bool, true, false, cond, refl, ap, sym, subst, ◌∙◌, pow-add, arith}
use Rattle.std.specs.List.{list_all}
use Rattle.std.proofs.lemmas.Bool.{eqb-true, eq-eqb}
use Rattle.std.proofs.lemmas.Nat.{pow_pos, mul-le, mod-mul-add, div-add-mod', div_below}
use Rattle.omega_net.specs.Numbers.{lines, half}
use Rattle.omega_net.specs.Wires.{below}
use Rattle.omega_net.proofs.Numbering.{half_twice}
use Rattle.saturation.specs.Towards.{leads_to}
use Rattle.saturation.proofs.Below.{below_all, below_not_all}

-- a line's switch is there
pub switch_there : (k s l : ℕ) → s < k → l < lines k → l / 2 < half k
switch_there k s l h there = omega (arith, half_twice k s h)

-- the line of that number among those that lead to a module
abbrev pub line_of : ℕ → ℕ → ℕ → ℕ → ℕ
line_of k m s place = place * 2 ^ (s + 1) + m / 2 ^ (k - 1 - s)

module _ (k m s : ℕ) (stage : s < k) (there : m < lines k) where
  parts : 2 ^ k ≡ 2 ^ (s + 1) * 2 ^ (k - 1 - s)
  parts = let e : k ≡ s + 1 + (k - 1 - s) = omega arith in ap (λ n. 2 ^ n) e ∙ pow-add 2 (s + 1) (k - 1 - s)

  turned : 2 ^ k ≡ 2 ^ (k - 1 - s) * 2 ^ (s + 1)
  turned = omega (arith, parts)

  -- the module's first bits
  pub first_bits : m / 2 ^ (k - 1 - s) < 2 ^ (s + 1)
  first_bits = div_below m (2 ^ (k - 1 - s)) (2 ^ (s + 1)) (pow_pos (k - 1 - s)) (subst (λ n. m < n) parts there)

  pub line_within : (place : ℕ) → place < 2 ^ (k - 1 - s) → line_of k m s place < lines k
  line_within place low =
      let fits : (place + 1) * 2 ^ (s + 1) ≤ 2 ^ (k - 1 - s) * 2 ^ (s + 1) = mul-le (place + 1) (2 ^ (s + 1)) (2 ^ (k - 1 - s)) (2 ^ (s + 1)) (omega arith) (omega arith) in
      omega (arith, fits, turned, first_bits)

  leads : (place : ℕ) → leads_to k m s (line_of k m s place) ≡ true
  leads place = eq-eqb _ _ (mod-mul-add place (2 ^ (s + 1)) (m / 2 ^ (k - 1 - s)) first_bits)

  module _ (full : ℕ → Bool) where
    pub all_full : ((place : ℕ) → place < 2 ^ (k - 1 - s) → full (line_of k m s place) ≡ true)
        → list_all (λ l. cond (leads_to k m s l) (full l) true) (below (lines k)) ≡ true
    all_full h = below_all (λ l. cond (leads_to k m s l) (full l) true) (lines k) (λ l within. by_test l within (leads_to k m s l) refl)
      where
        by_test : (l : ℕ) → l < lines k → (t : Bool) → leads_to k m s l ≡ t → cond t (full l) true ≡ true
        by_test l within false e = refl
        by_test l within true e =
            let bits : l % 2 ^ (s + 1) ≡ m / 2 ^ (k - 1 - s) = eqb-true _ _ e in
            let low : l / 2 ^ (s + 1) < 2 ^ (k - 1 - s) = div_below l (2 ^ (s + 1)) (2 ^ (k - 1 - s)) (pow_pos (s + 1)) (subst (λ n. l < n) turned within) in
            let same : line_of k m s (l / 2 ^ (s + 1)) ≡ l = ap (λ r. l / 2 ^ (s + 1) * 2 ^ (s + 1) + r) (sym bits) ∙ div-add-mod' l (2 ^ (s + 1)) in
            ap full (sym same) ∙ h (l / 2 ^ (s + 1)) low

    pub not_all_full : (place : ℕ) → place < 2 ^ (k - 1 - s) → full (line_of k m s place) ≡ false
        → list_all (λ l. cond (leads_to k m s l) (full l) true) (below (lines k)) ≡ false
    not_all_full place low e =
        below_not_all (λ l. cond (leads_to k m s l) (full l) true) (lines k) (line_of k m s place) (line_within place low) (rw (leads place) e)
