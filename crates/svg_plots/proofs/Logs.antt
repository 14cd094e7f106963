-- The logarithm of a fraction, found place by place.
use Rattle.std.proofs.Common.{◌≡◌, ℕ, zero, suc, ◌+◌, ◌-◌, ◌*◌, ◌/◌, ◌^◌, ◌<◌, ◌≤◌, nat_le, Bool, true, false, cond, refl, ap, sym, ◌∙◌, add-one, arith}
use Rattle.std.proofs.Math.Nat.{div-lt_iff_lt-mul, mul-le-mul, mul-le-mul_left, pow-suc}
use Rattle.std.proofs.lemmas.Nat.{pow_pos}
use Rattle.std.proofs.lemmas.Bool.{le-leb, le-ltb, lt-leb, ne_eqb}
use Rattle.svg_plots.specs.Logarithms.{halvings_of, hundredths_of, log2_of, log_places, squared}
use Rattle.svg_plots.specs.Ticks.{Doubles}

pub pow_more : (w : ℕ) → 2 ^ (w + 1) ≡ 2 ^ w * 2
pow_more w = ap (λ k. 2 ^ k) (add-one w) ∙ pow-suc 2 w

-- squares of numbers below 2 are below 4
pub square_small : (x : ℕ) → x < 2 ^ 31 → x * x < 2 ^ 62
square_small x h =
    let most : x ≤ 2147483647 = omega arith in
    omega (arith, mul-le-mul most most)

-- one binary place more
chosen : (b : Bool) (n bits s : ℕ) → bits * 2 ^ suc n + cond b (2 ^ n + log_places n (s / 2)) (log_places n s) ≡ (bits * 2 + cond b 1 0) * 2 ^ n + log_places n (cond b (s / 2) s)
chosen true n bits s = omega (arith, ap (λ p. bits * p) (pow-suc 2 n))
chosen false n bits s = omega (arith, ap (λ p. bits * p) (pow-suc 2 n))

log_next : (n bits x : ℕ) → bits * 2 ^ suc n + log_places (suc n) x
    ≡ (bits * 2 + cond (nat_le (2 ^ 31) (squared x)) 1 0) * 2 ^ n + log_places n (cond (nat_le (2 ^ 31) (squared x)) (squared x / 2) (squared x))
unfolding log_places
log_next n bits x = chosen (nat_le (2 ^ 31) (squared x)) n bits (squared x)

pub log_kept : (at bits x all : ℕ) → at < 10 → all ≡ bits * 2 ^ (10 - at) + log_places (10 - at) x
    → all ≡ (bits * 2 + cond (nat_le (2 ^ 31) (squared x)) 1 0) * 2 ^ (10 - (at + 1)) + log_places (10 - (at + 1)) (cond (nat_le (2 ^ 31) (squared x)) (squared x / 2) (squared x))
log_kept at bits x all l h =
    let one : 10 - at ≡ suc (10 - (at + 1)) = omega arith in
    h ∙ ap (λ n. bits * 2 ^ n + log_places n x) one ∙ log_next (10 - (at + 1)) bits x

pub log_end : (at bits x all : ℕ) → 10 ≤ at → all ≡ bits * 2 ^ (10 - at) + log_places (10 - at) x → all ≡ bits
unfolding log_places
log_end at bits x all l h =
    let none : 10 - at ≡ 0 = omega arith in
    let done : all ≡ bits * 1 + 0 = h ∙ ap (λ n. bits * 2 ^ n + log_places n x) none in
    omega (arith, done)

-- a fraction that is at least 2 to a power and less than 2 to the next one is halved so often
halved : (most n d w : ℕ) → d * 2 ^ w ≤ n → n < d * 2 ^ (w + 1) → w ≤ most → halvings_of most n d ≡ w
unfolding halvings_of
halved zero n d w low high few = omega arith
halved (suc most) n d zero low high few = rw (lt-leb (d * 2) n (omega arith)) refl
halved (suc most) n d (suc w) low high few =
    let less : d * 2 ^ w * 2 ≤ n = omega (arith, ap (λ p. d * p) (pow-suc 2 w)) in
    let more : n < d * 2 ^ (w + 1) * 2 = omega (arith, ap (λ p. d * p) (pow_more (suc w) ∙ ap (λ p. p * 2) (pow-suc 2 w)), ap (λ p. d * p) (pow_more w)) in
    let one : d * 2 ≤ n = omega (arith, mul-le-mul_left (d * 2) (pow_pos w)) in
    rw (le-leb (d * 2) n one) (ap (λ k. suc k) (halved most n (d * 2) w (omega arith) (omega arith) (omega arith)))

pub is_whole : (n d w : ℕ) → d * 2 ^ w ≤ n → n < d * 2 ^ (w + 1) → w < 32 → halvings_of 31 n d ≡ w
is_whole n d w low high few = halved 31 n d w low high (omega arith)

-- what is left of it is less than 2
pub left_small : (n d w : ℕ) → 0 < d → n < d * 2 ^ (w + 1) → n * 2 ^ 30 / d / 2 ^ w < 2 ^ 31
left_small n d w some high =
    let twice : n < 2 * (d * 2 ^ w) = omega (arith, ap (λ p. d * p) (pow_more w)) in
    let below : n * 2 ^ 30 < 2 ^ 31 * 2 ^ w * d = omega (arith, twice) in
    let part : n * 2 ^ 30 / d < 2 ^ 31 * 2 ^ w = (div-lt_iff_lt-mul some).1 below in
    (div-lt_iff_lt-mul (pow_pos w)).1 part

-- the logarithm by its two parts
pub log_is : (n d w h : ℕ) → (d ≡ 0 → ⊥) → d ≤ n → Doubles n d w → w < 32 → h ≡ hundredths_of (n * 2 ^ 30 / d / 2 ^ w) → w * 100 + h ≡ log2_of n d
log_is n d w h some one (low, high) few is = rw (ne_eqb d 0 some, le-ltb n d one, is_whole n d w low high few) (ap (λ part. w * 100 + part) is)
