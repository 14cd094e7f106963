-- The switch that a request comes to, by the low bits of its processor's number and the high bits of its module's.
use Rattle.std.proofs.Common.{◌≡◌, ℕ, zero, suc, ◌+◌, ◌-◌, ◌*◌, ◌/◌, ◌%◌, ◌^◌, ◌<◌, ap, sym, ◌∙◌, arith, subst}
use Rattle.std.proofs.lemmas.Nat.{pow_pos, mul-lt, mul-mod_second}
use Rattle.std.proofs.Math.Pow.{mod-mod-pow}
use Rattle.std.proofs.Math.Nat.{div-eq_of_lt, mod-eq_of_lt, mod-lt}
use Rattle.omega_net.specs.Numbers.{half}
use Rattle.omega_net.specs.Wires.{bit}
use Rattle.omega_net.specs.Routes.{line_at}
use Rattle.omega_net.proofs.Numbering.{half_power}
use Rattle.omega_net.proofs.RouteLaws.{line_is}

-- behind a stage only the bits below k of the processor's number are there
low_bits : (k p m s : ℕ) → line_at k p m (suc s) ≡ line_at k (p % 2 ^ k) m (suc s)
low_bits k p m zero = ap (λ l. l + bit (k - 1 - 0) m) (sym (mul-mod_second 2 p (2 ^ k)))
low_bits k p m (suc s) = ap (λ l. 2 * l % 2 ^ k + bit (k - 1 - suc s) m) (low_bits k p m s)

small_power : (j : ℕ) → j < 7 → 2 ^ j < 65
small_power zero h = omega arith
small_power (suc zero) h = omega arith
small_power (suc (suc zero)) h = omega arith
small_power (suc (suc (suc zero))) h = omega arith
small_power (suc (suc (suc (suc zero)))) h = omega arith
small_power (suc (suc (suc (suc (suc zero))))) h = omega arith
small_power (suc (suc (suc (suc (suc (suc zero)))))) h = omega arith
small_power (suc (suc (suc (suc (suc (suc (suc j))))))) h = absurd (omega (arith, h))

-- the same in words of 32 bits
in_words : (j s p : ℕ) → j < 7 → s < 7 → p % (1 * 2 ^ j % 2 ^ 32) * 2 ^ s % 2 ^ 32 ≡ p % 2 ^ j * 2 ^ s
in_words j s p h g =
    let is : 1 * 2 ^ j % 2 ^ 32 ≡ 2 ^ j = one (2 ^ j) (small_power j h) in
    let low : p % 2 ^ j < 2 ^ j = mod-lt p (pow_pos j) in
    let few : p % 2 ^ j * 2 ^ s < 65 * 65 = mul-lt (p % 2 ^ j) (2 ^ s) 65 65 (omega (arith, low, small_power j h)) (small_power s g) in
    ap (λ n. p % n * 2 ^ s % 2 ^ 32) is ∙ mod-eq_of_lt (omega (arith, few))
  where
    one : (n : ℕ) → n < 65 → 1 * n % 2 ^ 32 ≡ n
    one n small = omega arith

pub before_is : (k j s p m : ℕ) → k ≡ j + s → 0 < j → k < 7 → m < 2 ^ k → (p % (1 * 2 ^ j % 2 ^ 32) * 2 ^ s % 2 ^ 32 + m / 2 ^ j) % half k ≡ line_at k p m s % half k
before_is k j s p m e some few em = ap (λ n. (n + m / 2 ^ j) % half k) (in_words j s p (omega (arith, e, few)) (omega (arith, e, few))) ∙ by_stage s e
  where
    by_stage : (s : ℕ) → k ≡ j + s → (p % 2 ^ j * 2 ^ s + m / 2 ^ j) % half k ≡ line_at k p m s % half k
    by_stage zero e =
        let same : k ≡ j = omega (arith, e) in
        let none : m / 2 ^ j ≡ 0 = div-eq_of_lt (subst (λ n. m < 2 ^ n) same em) in
        let first : p % 2 ^ j * 1 + m / 2 ^ j ≡ p % 2 ^ j = omega (arith, none) in
        let one_more : k ≡ 1 + (k - 1) = omega (arith, same, some) in
        ap (λ n. n % half k) first
        ∙ ap (λ n. p % 2 ^ n % half k) (sym same)
        ∙ ap (λ h. p % 2 ^ k % h) (half_power k (omega (arith, same, some)))
        ∙ ap (λ n. p % 2 ^ n % 2 ^ (k - 1)) one_more
        ∙ mod-mod-pow p 1 (k - 1)
        ∙ ap (λ h. p % h) (sym (half_power k (omega (arith, same, some))))
    by_stage (suc s) e =
        let shorter : p % 2 ^ k % 2 ^ j ≡ p % 2 ^ j = ap (λ n. p % 2 ^ n % 2 ^ j) (swapped (suc s) e) ∙ mod-mod-pow p (suc s) j in
        ap (λ n. (n * 2 ^ suc s + m / 2 ^ j) % half k) (sym shorter)
        ∙ ap (λ l. l % half k) (sym (line_is k j (suc s) (p % 2 ^ k) m e (mod-lt p (pow_pos k)) em) ∙ sym (low_bits k p m s))
      where
        swapped : (s : ℕ) → k ≡ j + s → k ≡ s + j
        swapped s e = omega (arith, e)
