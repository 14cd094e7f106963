-- Lines and labels name each other, and a stage joins the same two labels before and behind it.
use Rattle.std.proofs.Common.{◌≡◌, ℕ, suc, ◌+◌, ◌-◌, ◌*◌, ◌/◌, ◌%◌, ◌^◌, ◌<◌, ◌≤◌, ap, sym, ◌∙◌, arith, subst}
use Rattle.std.proofs.lemmas.Nat.{pow_pos, pow-add, div-mul-add, mod-mul-add, mul-add-lt, shr_below, shr_split, shr-shr, mod_below}
use Rattle.std.proofs.Math.Nat.{pow-suc, div-eq_of_lt, mod-eq_of_lt}
use Rattle.omega_net.specs.Numbers.{half}
use Rattle.omega_net.specs.Wires.{bit}
use Rattle.flat_row.specs.Labels.{rotated_right, line_of, switch_label, EachIsNamed}

-- a rotation, with its two parts written out
parts : (k a r n : ℕ) → k ≡ a + r → rotated_right k r n ≡ n % 2 ^ r * 2 ^ a + n / 2 ^ r
parts k a r n e =
    let rest : k - r ≡ a = omega arith in
    ap (λ d. n / 2 ^ r + n % 2 ^ r * 2 ^ d) rest ∙ omega arith

below_power : (k a r n : ℕ) → k ≡ a + r → n < 2 ^ k → n / 2 ^ r < 2 ^ a
below_power k a r n e h = let P : ℕ → Type 0 = λ d. n < 2 ^ d in shr_below n a r (subst P e h)

power_of_sum : (k a r : ℕ) → k ≡ a + r → 2 ^ a * 2 ^ r ≡ 2 ^ k
power_of_sum k a r e = sym (ap (λ d. 2 ^ d) e ∙ pow-add 2 a r)

pub within : (k r n : ℕ) → r ≤ k → n < 2 ^ k → rotated_right k r n < 2 ^ k
within k r n le h =
    let e : k ≡ (k - r) + r = omega arith in
    let fits : n % 2 ^ r * 2 ^ (k - r) + n / 2 ^ r < 2 ^ (k - r) * 2 ^ r =
    mul-add-lt (n % 2 ^ r) (2 ^ (k - r)) (n / 2 ^ r) (2 ^ r) (mod_below n (2 ^ r) (pow_pos r)) (below_power k (k - r) r n e h) in
    let whole : 2 ^ (k - r) * 2 ^ r ≡ 2 ^ k = power_of_sum k (k - r) r e in
    omega arith

-- rotated on by the rest, it is what it was
around : (k a r n : ℕ) → k ≡ a + r → n < 2 ^ k → rotated_right k a (rotated_right k r n) ≡ n
around k a r n e h =
    let high : n / 2 ^ r < 2 ^ a = below_power k a r n e h in
    ap (λ m. rotated_right k a m) (parts k a r n e)
    ∙ parts k r a (n % 2 ^ r * 2 ^ a + n / 2 ^ r) (omega arith)
    ∙ ap (λ m. m * 2 ^ r + (n % 2 ^ r * 2 ^ a + n / 2 ^ r) / 2 ^ a) (mod-mul-add (n % 2 ^ r) (2 ^ a) (n / 2 ^ r) high)
    ∙ ap (λ m. n / 2 ^ r * 2 ^ r + m) (div-mul-add (n % 2 ^ r) (2 ^ a) (n / 2 ^ r) high)
    ∙ shr_split n r

lines_back : (k s l : ℕ) → s ≤ k → l < 2 ^ k → line_of k s (rotated_right k s l) ≡ l
lines_back k s l le h = around k (k - s) s l (omega arith) h

labels_back : (k s x : ℕ) → s ≤ k → x < 2 ^ k → rotated_right k s (line_of k s x) ≡ x
labels_back k s x le h = around k s (k - s) x (omega arith) h

no_turn : (k l : ℕ) → rotated_right k 0 l ≡ l
no_turn k l =
    let none : l % 1 ≡ 0 = omega arith in
    let all : l / 1 ≡ l = omega arith in
    ap (λ m. l / 1 + m * 2 ^ (k - 0)) none ∙ all_of (2 ^ (k - 0)) (l / 1) all
  where
    all_of : (w m : ℕ) → m ≡ l → m + 0 * w ≡ l
    all_of w m e = omega arith

full_turn : (k l : ℕ) → l < 2 ^ k → rotated_right k k l ≡ l
full_turn k l h =
    parts k 0 k l (omega arith) ∙ ap (λ m. m * 1 + l / 2 ^ k) (mod-eq_of_lt h) ∙ ap (λ m. l * 1 + m) (div-eq_of_lt h) ∙ omega arith

-- half of the lines
half_is : (k q s : ℕ) → k ≡ suc q + s → half k ≡ 2 ^ q * 2 ^ s
half_is k q s e =
    let whole : 2 ^ k ≡ 2 ^ suc (q + s) = ap (λ d. 2 ^ d) (omega arith) in
    let twice : 2 ^ suc (q + s) ≡ 2 ^ (q + s) * 2 = pow-suc 2 (q + s) in
    let two : 2 ^ (q + s) ≡ 2 ^ q * 2 ^ s = pow-add 2 q s in
    omega arith

-- the label of a switch: the high bits of its index stand below the deciding bit, the low ones above it
switch_parts : (k q s j : ℕ) → k ≡ suc q + s → switch_label k s j ≡ j % 2 ^ s * 2 * 2 ^ q + j / 2 ^ s
switch_parts k q s j e = parts k (suc q) s j e ∙ ap (λ d. j % 2 ^ s * d + j / 2 ^ s) (pow-suc 2 q) ∙ regroup (j % 2 ^ s) (2 ^ q) (j / 2 ^ s)
  where
    regroup : (a b c : ℕ) → a * (b * 2) + c ≡ a * 2 * b + c
    regroup a b c = omega arith

high_index : (k q s j : ℕ) → k ≡ suc q + s → j < half k → j / 2 ^ s < 2 ^ q
high_index k q s j e h =
    let P : ℕ → Type 0 = λ d. j < d in
    shr_below j q s (subst P (half_is k q s e ∙ sym (pow-add 2 q s)) h)

deciding_bit_clear : (k q s j : ℕ) → k ≡ suc q + s → j < half k → bit q (switch_label k s j) ≡ 0
deciding_bit_clear k q s j e h =
    ap (λ m. m / 2 ^ q % 2) (switch_parts k q s j e)
    ∙ ap (λ m. m % 2) (div-mul-add (j % 2 ^ s * 2) (2 ^ q) (j / 2 ^ s) (high_index k q s j e h))
    ∙ omega arith

into_label : (k q s j i : ℕ) → k ≡ suc q + s → j < half k → rotated_right k s (i * half k + j) ≡ switch_label k s j + i * 2 ^ q
into_label k q s j i e h =
    ap (λ m. rotated_right k s (i * m + j)) (half_is k q s e)
    ∙ ap (λ m. rotated_right k s m) (split i (2 ^ q) (2 ^ s) (j / 2 ^ s) (j % 2 ^ s) j (shr_split j s))
    ∙ parts k (suc q) s ((i * 2 ^ q + j / 2 ^ s) * 2 ^ s + j % 2 ^ s) e
    ∙ ap (λ m. m * 2 ^ suc q + ((i * 2 ^ q + j / 2 ^ s) * 2 ^ s + j % 2 ^ s) / 2 ^ s) (mod-mul-add (i * 2 ^ q + j / 2 ^ s) (2 ^ s) (j % 2 ^ s) low)
    ∙ ap (λ m. j % 2 ^ s * 2 ^ suc q + m) (div-mul-add (i * 2 ^ q + j / 2 ^ s) (2 ^ s) (j % 2 ^ s) low)
    ∙ together (j % 2 ^ s * 2 ^ suc q) (i * 2 ^ q) (j / 2 ^ s)
    ∙ ap (λ m. m + i * 2 ^ q) (sym (parts k (suc q) s j e))
  where
    low : j % 2 ^ s < 2 ^ s
    low = mod_below j (2 ^ s) (pow_pos s)

    split : (i b w h r j : ℕ) → h * w + r ≡ j → i * (b * w) + j ≡ (i * b + h) * w + r
    split i b w h r j e = omega arith

    together : (a b c : ℕ) → a + (b + c) ≡ a + c + b
    together a b c = omega arith

out_label : (k q s j o : ℕ) → k ≡ suc q + s → o < 2 → rotated_right k (suc s) (2 * j + o) ≡ switch_label k s j + o * 2 ^ q
out_label k q s j o e h =
    ap (λ m. rotated_right k (suc s) m) (split (j / 2 ^ s) (2 ^ s) (j % 2 ^ s) j (shr_split j s) ∙ ap (λ m. j / 2 ^ s * m + (2 * (j % 2 ^ s) + o)) (sym (pow-suc 2 s)))
    ∙ parts k q (suc s) (j / 2 ^ s * 2 ^ suc s + (2 * (j % 2 ^ s) + o)) (omega arith)
    ∙ ap (λ m. m * 2 ^ q + (j / 2 ^ s * 2 ^ suc s + (2 * (j % 2 ^ s) + o)) / 2 ^ suc s) (mod-mul-add (j / 2 ^ s) (2 ^ suc s) (2 * (j % 2 ^ s) + o) low)
    ∙ ap (λ m. (2 * (j % 2 ^ s) + o) * 2 ^ q + m) (div-mul-add (j / 2 ^ s) (2 ^ suc s) (2 * (j % 2 ^ s) + o) low)
    ∙ together (j % 2 ^ s) o (2 ^ q) (j / 2 ^ s)
    ∙ ap (λ m. m + o * 2 ^ q) (sym (switch_parts k q s j e))
  where
    low : 2 * (j % 2 ^ s) + o < 2 ^ suc s
    low = let under : j % 2 ^ s < 2 ^ s = mod_below j (2 ^ s) (pow_pos s) in omega (arith, pow-suc 2 s)

    split : (h w r j : ℕ) → h * w + r ≡ j → 2 * j + o ≡ h * (w * 2) + (2 * r + o)
    split h w r j e = omega arith

    together : (a o w c : ℕ) → (2 * a + o) * w + c ≡ a * 2 * w + c + o * w
    together a o w c = omega arith

input_bit : (k q s l : ℕ) → k ≡ suc q + s → l < 2 ^ k → bit q (rotated_right k s l) ≡ l / half k
input_bit k q s l e h =
    ap (λ m. m / 2 ^ q % 2) (switch_parts k q s l e ∙ split (l % 2 ^ s * 2) (2 ^ q) (l / 2 ^ s) (l / 2 ^ s / 2 ^ q) (l / 2 ^ s % 2 ^ q) (shr_split (l / 2 ^ s) q))
    ∙ ap (λ m. m % 2) (div-mul-add (l % 2 ^ s * 2 + l / 2 ^ s / 2 ^ q) (2 ^ q) (l / 2 ^ s % 2 ^ q) (mod_below (l / 2 ^ s) (2 ^ q) (pow_pos q)))
    ∙ small (l % 2 ^ s) (l / 2 ^ s / 2 ^ q) (shr_below (l / 2 ^ s) 1 q (subst (λ d. l / 2 ^ s < 2 ^ d) one_more (below_power k (suc q) s l e h)))
    ∙ shr-shr l s q
    ∙ ap (λ m. l / m) (pow-add 2 s q ∙ turned (2 ^ s) (2 ^ q) ∙ sym (half_is k q s e))
  where
    split : (a w h x y : ℕ) → x * w + y ≡ h → a * w + h ≡ (a + x) * w + y
    split a w h x y e = omega arith

    one_more : suc q ≡ 1 + q
    one_more = omega arith

    small : (a x : ℕ) → x < 2 → (a * 2 + x) % 2 ≡ x
    small a x lt = omega arith

    turned : (a b : ℕ) → a * b ≡ b * a
    turned a b = omega arith

pub each_is_named : EachIsNamed
each_is_named k = record {
  within = λ s l le h. within k s l le h;
  lines_back = lines_back k;
  labels_back = labels_back k;
  processors = no_turn k;
  modules = full_turn k;
  first = λ s j lt h. deciding_bit_clear k (k - 1 - s) s j (omega arith) h;
  into = λ net s j i lt h port. into_label k (k - 1 - s) s j i (omega arith) h;
  out = λ net s j o lt h port. out_label k (k - 1 - s) s j o (omega arith) port;
  input = λ s l lt h. input_bit k (k - 1 - s) s l (omega arith) h;
}
