-- A route ends at its module, and leads back from it.
use Rattle.std.proofs.Common.{◌≡◌, ℕ, zero, suc, ◌+◌, ◌-◌, ◌*◌, ◌/◌, ◌%◌, ◌^◌, ◌<◌, ◌≤◌, Bool, true, false, cond, refl, ap, sym, ◌∙◌, arith, pow-add, subst}
use Rattle.std.specs.Prelude.{◌==◌}
use Rattle.std.proofs.lemmas.Bool.{eqb-true, eq-eqb}
use Rattle.std.proofs.lemmas.Nat.{pow_pos, div-mul-add, mod-mul-add}
use Rattle.std.proofs.Math.Pow.{mod-mod-pow}
use Rattle.std.proofs.Math.Nat.{pow-suc, div-eq_of_lt, mod-eq_of_lt, mod-lt, mod-add-div', div-div-eq-div-mul, div-lt_iff_lt-mul}
use Rattle.std.proofs.Math.Arith.{mod-mul}
use Rattle.omega_net.specs.declared.component.Net.{Net}
use Rattle.omega_net.specs.declared.component.Component.TheVariants.{Module, Switch}
use Rattle.omega_net.specs.declared.wire.Wire.{Wire}
use Rattle.omega_net.specs.Numbers.{half}
use Rattle.omega_net.specs.Wires.{bit, upper_end, lower_end}
use Rattle.omega_net.specs.Routes.{rotated, line_at, stage_bit, onward, onward_from, homeward, homeward_from, forth, back, RoutesArrive}
use Rattle.omega_net.proofs.Numbering.{half_twice, half_some}
use Rattle.omega_net.proofs.Ends.{out_begins}

-- a number of the form a * w + b, cut off at c * w
low_part : (a w c b : ℕ) → b < w → 0 < c → (a * w + b) % (c * w) ≡ a % c * w + b
low_part a w c b small pos =
    mod-mul (a * w + b) pos (omega arith)
    ∙ ap (λ q. q % c * w + (a * w + b) % w) (div-mul-add a w b small) ∙ ap (λ r. a % c * w + r) (mod-mul-add a w b small)

twice : (a x m : ℕ) → 2 * (a * x + m) ≡ a * (x * 2) + 2 * m
twice a x m = omega arith

-- the high bits, with one bit more
one_bit_more : (j m : ℕ) → m / 2 ^ j ≡ 2 * (m / 2 ^ suc j) + m / 2 ^ j % 2
one_bit_more j m =
    let halved : m / 2 ^ j / 2 ≡ m / 2 ^ suc j = div-div-eq-div-mul m (2 ^ j) 2 ∙ ap (λ n. m / n) (sym (pow-suc 2 j)) in
    omega arith

split_power : (k a b : ℕ) → k ≡ a + b → 2 ^ k ≡ 2 ^ a * 2 ^ b
split_power k a b e = ap (λ n. 2 ^ n) e ∙ pow-add 2 a b

regroup : (x m b t : ℕ) → t ≡ 2 * m + b → x + 2 * m + b ≡ x + t
regroup x m b t e = omega arith

shorter_mask : (p j : ℕ) → p % 2 ^ suc j % 2 ^ j ≡ p % 2 ^ j
shorter_mask p j = let one_more : suc j ≡ 1 + j = omega arith in ap (λ n. p % 2 ^ n % 2 ^ j) one_more ∙ mod-mod-pow p 1 j

-- the module's high bits
high_bits : (k j s m : ℕ) → k ≡ j + s → m < 2 ^ k → m / 2 ^ j < 2 ^ s
high_bits k j s m e em =
    let B : ℕ → Type 0 = λ n. m < n in
    let high : m < 2 ^ s * 2 ^ j = subst B (split_power k s j (omega arith)) em in
    (div-lt_iff_lt-mul (pow_pos j)).1 high

-- after s stages: the processor's low bits, then the module's high bits
pub line_is : (k j s p m : ℕ) → k ≡ j + s → p < 2 ^ k → m < 2 ^ k → line_at k p m s ≡ p % 2 ^ j * 2 ^ s + m / 2 ^ j
line_is k j zero p m e ep em =
    let same : k ≡ j = omega arith in
    let P : ℕ → Type 0 = λ n. p < 2 ^ n in
    let M : ℕ → Type 0 = λ n. m < 2 ^ n in
    let low : p % 2 ^ j ≡ p = mod-eq_of_lt (subst P same ep) in
    let none : m / 2 ^ j ≡ 0 = div-eq_of_lt (subst M same em) in
    omega arith
line_is k j (suc s) p m e ep em =
    let small : m / 2 ^ suc j < 2 ^ s = high_bits k (suc j) s m (omega arith) em in
    let below : 2 * (m / 2 ^ suc j) < 2 ^ suc s = omega (arith, pow-suc 2 s) in
    let place : k - 1 - s ≡ j = omega arith in
    ap (λ l. 2 * l % 2 ^ k + bit (k - 1 - s) m) (line_is k (suc j) s p m (omega arith) ep em)
    ∙ ap (λ n. 2 * (p % 2 ^ suc j * 2 ^ s + m / 2 ^ suc j) % 2 ^ k + bit n m) place
    ∙ ap (λ n. n % 2 ^ k + bit j m) (twice (p % 2 ^ suc j) (2 ^ s) (m / 2 ^ suc j) ∙ ap (λ n. p % 2 ^ suc j * n + 2 * (m / 2 ^ suc j)) (sym (pow-suc 2 s)))
    ∙ ap (λ n. (p % 2 ^ suc j * 2 ^ suc s + 2 * (m / 2 ^ suc j)) % n + bit j m) (split_power k j (suc s) e)
    ∙ ap (λ n. n + bit j m) (low_part (p % 2 ^ suc j) (2 ^ suc s) (2 ^ j) (2 * (m / 2 ^ suc j)) below (pow_pos j))
    ∙ ap (λ n. n * 2 ^ suc s + 2 * (m / 2 ^ suc j) + bit j m) (shorter_mask p j)
    ∙ regroup (p % 2 ^ j * 2 ^ suc s) (m / 2 ^ suc j) (bit j m) (m / 2 ^ j) (one_bit_more j m)

-- the last line is the module
last_line : (k p m : ℕ) → p < 2 ^ k → m < 2 ^ k → line_at k p m k ≡ m
last_line k p m ep em = line_is k 0 k p m (omega arith) ep em ∙ last (p % 1) (m / 1) (2 ^ k) m (omega arith) (omega arith)
  where
    last : (a b w m : ℕ) → a ≡ 0 → b ≡ m → a * w + b ≡ m
    last a b w m ea eb = let gone : 0 * w + b ≡ m = omega arith in ap (λ n. n * w + b) ea ∙ gone

-- twice a line, cut off, is twice the line in its half
twice_in_half : (l h : ℕ) → 0 < h → 2 * l % (h * 2) ≡ 2 * (l % h)
twice_in_half l h pos =
    let cut : 2 * l % (h * 2) ≡ 2 * l / 2 % h * 2 + 2 * l % 2 = mod-mul (2 * l) pos (omega arith) in
    let whole : 2 * l / 2 ≡ l = omega arith in
    let even : 2 * l % 2 ≡ 0 = omega arith in
    cut ∙ ap (λ q. q % h * 2 + 2 * l % 2) whole ∙ omega arith

-- the wire of a line before a stage
abbrev pub on_line : Net → ℕ → ℕ → Wire
on_line net s l = record { net = net; stage = s; line = l }

-- the wire before a stage meets a switch
meets : (k : ℕ) (net : Net) (s l : ℕ) → s < k → lower_end k (on_line net s l) ≡ Switch net s (l % half k)
meets k net s l lt = by_test (s == k) refl
  where
    by_test : (t : Bool) → (s == k) ≡ t → cond t (Module l) (Switch net s (l % half k)) ≡ Switch net s (l % half k)
    by_test true e = let same : s ≡ k = eqb-true s k e in absurd (omega arith)
    by_test false e = refl

meets_last : (k : ℕ) (net : Net) (l : ℕ) → lower_end k (on_line net k l) ≡ Module l
meets_last k net l = ap (λ t. cond t (Module l) (Switch net k (l % half k))) (eq-eqb k k refl)

-- a stage rotates the line
stage_rotates : (k : ℕ) (net : Net) (s l m : ℕ) → s < k → onward k m (on_line net s l) ≡ on_line net (suc s) (rotated k l (stage_bit k s m))
stage_rotates k net s l m lt =
    let two : half k * 2 ≡ 2 ^ k = omega (arith, half_twice k s lt) in
    ap (λ c. onward_from k m (on_line net s l) c) (meets k net s l lt)
    ∙ ap (λ n. on_line net (suc s) (n + stage_bit k s m)) (sym (twice_in_half l (half k) (half_some k s lt)) ∙ ap (λ n. 2 * l % n) two)

along : (k : ℕ) (net : Net) (p m s : ℕ) → s ≤ k → forth k net p m s ≡ on_line net s (line_at k p m s)
along k net p m zero le = refl
along k net p m (suc s) le =
    ap (onward k m) (along k net p m s (omega arith)) ∙ stage_rotates k net s (line_at k p m s) m (omega arith)

-- the highest of a number's low bits
top_bit : (p j : ℕ) → p % 2 ^ suc j / 2 ^ j ≡ p / 2 ^ j % 2
top_bit p j =
    ap (λ n. p % n / 2 ^ j) (pow-suc 2 j ∙ twice_is (2 ^ j))
    ∙ ap (λ n. n / 2 ^ j) (mod-mul p (omega arith) (pow_pos j))
    ∙ div-mul-add (p / 2 ^ j % 2) (2 ^ j) (p % 2 ^ j) (mod-lt p (pow_pos j))
  where
    twice_is : (n : ℕ) → n * 2 ≡ 2 * n
    twice_is n = omega arith

half_power : (k j s : ℕ) → k ≡ suc j + s → half k ≡ 2 ^ s * 2 ^ j
half_power k j s e =
    let two : 2 ^ k ≡ 2 ^ 1 * 2 ^ (s + j) = split_power k 1 (s + j) (omega arith) in
    let parts : 2 ^ (s + j) ≡ 2 ^ s * 2 ^ j = pow-add 2 s j in
    let twice : half k + half k ≡ 2 ^ k = half_twice k s (omega arith) in
    omega arith

-- the input at which a route meets a stage is the bit of the processor that the stage sends replies back by
met_at : (k p m s : ℕ) → s < k → p < 2 ^ k → m < 2 ^ k → line_at k p m s / half k ≡ stage_bit k s p
met_at k p m s lt ep em = by_rest (k - 1 - s) (omega arith)
  where
    by_rest : (j : ℕ) → k ≡ suc j + s → line_at k p m s / half k ≡ p / 2 ^ j % 2
    by_rest j e =
        ap (λ n. line_at k p m s / n) (half_power k j s e)
        ∙ sym (div-div-eq-div-mul (line_at k p m s) (2 ^ s) (2 ^ j))
        ∙ ap (λ l. l / 2 ^ s / 2 ^ j) (line_is k (suc j) s p m e ep em)
        ∙ ap (λ l. l / 2 ^ j) (div-mul-add (p % 2 ^ suc j) (2 ^ s) (m / 2 ^ suc j) (high_bits k (suc j) s m e em))
        ∙ top_bit p j

bit_below : (b n : ℕ) → bit b n < 2
bit_below b n = omega arith

-- and back over a stage
stage_leads_back : (k : ℕ) (net : Net) (s l p m : ℕ) → s < k → l / half k ≡ stage_bit k s p
    → homeward k p (on_line net (suc s) (rotated k l (stage_bit k s m))) ≡ on_line net s l
stage_leads_back k net s l p m lt at =
    let two : half k * 2 ≡ 2 ^ k = omega (arith, half_twice k s lt) in
    let low : rotated k l (stage_bit k s m) ≡ 2 * (l % half k) + stage_bit k s m =
    ap (λ n. n + stage_bit k s m) (ap (λ n. 2 * l % n) (sym two) ∙ twice_in_half l (half k) (half_some k s lt)) in
    ap (λ n. homeward k p (on_line net (suc s) n)) low
    ∙ ap (λ c. homeward_from k p (on_line net (suc s) (2 * (l % half k) + stage_bit k s m)) c)
    (out_begins net s (l % half k) (stage_bit k s m) (bit_below (k - 1 - s) m))
    ∙ ap (λ b. on_line net s (b * half k + l % half k)) (sym at)
    ∙ ap (λ n. on_line net s n) (omega (arith, mod-add-div' l (half k)))

back_is : (k : ℕ) (net : Net) (p m i s : ℕ) → i + s ≡ k → p < 2 ^ k → m < 2 ^ k → back k net p m i ≡ on_line net s (line_at k p m s)
back_is k net p m zero s e ep em =
    let same : s ≡ k = omega arith in
    ap (λ l. on_line net k l) (sym (last_line k p m ep em)) ∙ ap (λ n. on_line net n (line_at k p m n)) (sym same)
back_is k net p m (suc i) s e ep em =
    ap (homeward k p) (back_is k net p m i (suc s) (omega arith) ep em)
    ∙ stage_leads_back k net s (line_at k p m s) p m (omega arith) (met_at k p m s (omega arith) ep em)

pub is_route : RoutesArrive
is_route k net p m ep em = record {
  along = along k net p m;
  ends =
      ap (lower_end k) (along k net p m k (omega arith)) ∙ meets_last k net (line_at k p m k) ∙ ap (λ l. Module l) (last_line k p m ep em);
  back_along = λ s le. back_is k net p m (k - s) s (omega arith) ep em ∙ sym (along k net p m s le);
  back_ends = ap upper_end (back_is k net p m k 0 (omega arith) ep em);
}
