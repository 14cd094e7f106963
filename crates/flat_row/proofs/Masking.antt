-- Words of 64 bits as sets of labels.
use Rattle.std.proofs.Common.{◌≡◌, ℕ, zero, suc, ◌+◌, ◌-◌, ◌*◌, ◌/◌, ◌%◌, ◌^◌, ◌<◌, ◌≤◌, Bool, true, refl, ap, sym, ◌∙◌, arith, get_or, [], ◌∷◌, List}
use Rattle.std.specs.Prelude.{◌==◌, ◌&&◌, ◌||◌, not, nat_lt, min, max, bit_and, bit_or}
use Rattle.std.specs.Int.{bit_at, bit_not, w64}
use Rattle.std.proofs.lemmas.Bool.{agree_below_at, and_parts, eqb-true, ltb-true}
use Rattle.std.proofs.lemmas.Nat.{pow_pos, pow_below, one_shl, shr_split, shr-shr}
use Rattle.std.proofs.lemmas.Nat.Bits.{bit_at_and, bit_at_or, bit_at_not, bit_at-lt, bit_at_cat_low, bit_at_cat_high}
use Rattle.omega_net.specs.Wires.{bit}
use Rattle.flat_row.specs.Labels.{port}
use Rattle.flat_row.specs.Masks.{has, IsSetOf}

-- bits as tests
and_bits : (p q : ℕ) → p < 2 → q < 2 → (min p q == 1) ≡ ((p == 1) && (q == 1))
and_bits zero zero a b = refl
and_bits zero (suc zero) a b = refl
and_bits (suc zero) zero a b = refl
and_bits (suc zero) (suc zero) a b = refl
and_bits (suc (suc p)) q a b = absurd (omega arith)
and_bits zero (suc (suc q)) a b = absurd (omega arith)
and_bits (suc zero) (suc (suc q)) a b = absurd (omega arith)

or_bits : (p q : ℕ) → p < 2 → q < 2 → (max p q == 1) ≡ ((p == 1) || (q == 1))
or_bits zero zero a b = refl
or_bits zero (suc zero) a b = refl
or_bits (suc zero) zero a b = refl
or_bits (suc zero) (suc zero) a b = refl
or_bits (suc (suc p)) q a b = absurd (omega arith)
or_bits zero (suc (suc q)) a b = absurd (omega arith)
or_bits (suc zero) (suc (suc q)) a b = absurd (omega arith)

not_bit : (p : ℕ) → p < 2 → (1 - p == 1) ≡ not (p == 1)
not_bit zero a = refl
not_bit (suc zero) a = refl
not_bit (suc (suc p)) a = absurd (omega arith)

pub is_zero : (p : ℕ) → p < 2 → (p == 0) ≡ not (p == 1)
is_zero zero a = refl
is_zero (suc zero) a = refl
is_zero (suc (suc p)) a = absurd (omega arith)

pub has_and : (a b x : ℕ) → has (bit_and a b) x ≡ (has a x && has b x)
has_and a b x = ap (λ n. n == 1) (bit_at_and a b x) ∙ and_bits (bit_at a x) (bit_at b x) (bit_at-lt a x) (bit_at-lt b x)

pub has_or : (a b x : ℕ) → has (bit_or a b) x ≡ (has a x || has b x)
has_or a b x = ap (λ n. n == 1) (bit_at_or a b x) ∙ or_bits (bit_at a x) (bit_at b x) (bit_at-lt a x) (bit_at-lt b x)

pub has_not : (a x : ℕ) → a < 2 ^ 64 → x < 64 → has (bit_not w64 a) x ≡ not (has a x)
has_not a x small within = ap (λ n. n == 1) (bit_at_not w64 a x small within) ∙ not_bit (bit_at a x) (bit_at-lt a x)

-- shifted down, and up within 64 bits
pub has_down : (a d x : ℕ) → has (a / 2 ^ d) x ≡ has a (x + d)
has_down a d x = ap (λ n. n % 2 == 1) (shr-shr a d x ∙ ap (λ n. a / 2 ^ n) (omega arith))

low_bit : (n w x : ℕ) → x < w → bit_at (n % 2 ^ w) x ≡ bit_at n x
low_bit n w x h = sym (bit_at_cat_low (n / 2 ^ w) w (n % 2 ^ w) x h) ∙ ap (λ m. bit_at m x) (shr_split n w)

pub has_up : (a d x : ℕ) → x < 64 → d ≤ x → has (a * 2 ^ d % 2 ^ 64) x ≡ has a (x - d)
has_up a d x within le =
    ap (λ n. n == 1) (low_bit (a * 2 ^ d) 64 x within)
    ∙ ap (λ n. bit_at n x == 1) (more (a * 2 ^ d))
    ∙ ap (λ n. n == 1) (bit_at_cat_high a d 0 x (pow_pos d) le)
  where
    more : (n : ℕ) → n ≡ n + 0
    more n = omega arith

-- the table of first ports
abbrev ports : List ℕ
ports = 0x5555_5555_5555_5555 ∷ 0x3333_3333_3333_3333 ∷ 0x0f0f_0f0f_0f0f_0f0f ∷ 0x00ff_00ff_00ff_00ff ∷ 0x0000_ffff_0000_ffff ∷ 0x0000_0000_ffff_ffff ∷ []

pub first_ports : (by : ℕ) → by < 6 → IsSetOf (λ x. bit by x == 0) (get_or ports by 0)
first_ports zero h x within = agree_below_at (λ x. has 0x5555_5555_5555_5555 x) (λ x. bit 0 x == 0) 64 x refl within
first_ports (suc zero) h x within = agree_below_at (λ x. has 0x3333_3333_3333_3333 x) (λ x. bit 1 x == 0) 64 x refl within
first_ports (suc (suc zero)) h x within = agree_below_at (λ x. has 0x0f0f_0f0f_0f0f_0f0f x) (λ x. bit 2 x == 0) 64 x refl within
first_ports (suc (suc (suc zero))) h x within = agree_below_at (λ x. has 0x00ff_00ff_00ff_00ff x) (λ x. bit 3 x == 0) 64 x refl within
first_ports (suc (suc (suc (suc zero)))) h x within = agree_below_at (λ x. has 0x0000_ffff_0000_ffff x) (λ x. bit 4 x == 0) 64 x refl within
first_ports (suc (suc (suc (suc (suc zero))))) h x within = agree_below_at (λ x. has 0x0000_0000_ffff_ffff x) (λ x. bit 5 x == 0) 64 x refl within
first_ports (suc (suc (suc (suc (suc (suc by)))))) h x within = absurd (omega arith)

-- the labels of a switch
pub other_port : (by x : ℕ) → bit by x ≡ 0 → port by 1 x ≡ x + 2 ^ by
other_port by x e = ap (λ n. x - n * 2 ^ by + 1 * 2 ^ by) e ∙ grown (2 ^ by)
  where
    grown : (d : ℕ) → x - 0 * d + 1 * d ≡ x + d
    grown d = omega arith

pub first_port : (by x : ℕ) → bit by x ≡ 1 → port by 0 x ≡ x - 2 ^ by
first_port by x e = ap (λ n. x - n * 2 ^ by + 0 * 2 ^ by) e ∙ shrunk (2 ^ by)
  where
    shrunk : (d : ℕ) → x - 1 * d + 0 * d ≡ x - d
    shrunk d = omega arith

pub room_below : (by x : ℕ) → bit by x ≡ 1 → 2 ^ by ≤ x
room_below by x e =
    let some : 0 < x / 2 ^ by = omega arith in
    let whole : x / 2 ^ by * 2 ^ by + x % 2 ^ by ≡ x = shr_split x by in
    omega (arith, mul_some (x / 2 ^ by) (2 ^ by) some)
  where
    mul_some : (a d : ℕ) → 0 < a → d ≤ a * d
    mul_some (suc a) d h = omega arith
    mul_some zero d h = absurd (omega arith)

pub distance_small : (by : ℕ) → by < 6 → 1 * 2 ^ by % 2 ^ 32 < 64
distance_small by h =
    let whole : 1 * 2 ^ by % 2 ^ 32 ≡ 2 ^ by = one_shl by 32 (omega arith) in
    let small : 2 ^ by < 64 = pow_below by 6 h in
    omega arith

pub to_first : (by set firsts d : ℕ) → IsSetOf (λ x. bit by x == 0) firsts → d ≡ 2 ^ by
    → IsSetOf (λ x. (bit by x == 0) && has set (port by 1 x)) (bit_and firsts (set / 2 ^ d))
to_first by set firsts d f e x within = has_and firsts (set / 2 ^ d) x ∙ by_bit (bit by x) refl (bit_at-lt x by)
  where
    by_bit : (t : ℕ) → bit by x ≡ t → t < 2 → (has firsts x && has (set / 2 ^ d) x) ≡ ((bit by x == 0) && has set (port by 1 x))
    by_bit zero z lt =
        ap (λ b. b && has (set / 2 ^ d) x) (f x within ∙ ap (λ n. n == 0) z)
        ∙ has_down set d x
        ∙ ap (has set) (ap (λ n. x + n) e ∙ sym (other_port by x z))
        ∙ sym (ap (λ n. (n == 0) && has set (port by 1 x)) z)
    by_bit (suc zero) z lt =
        ap (λ b. b && has (set / 2 ^ d) x) (f x within ∙ ap (λ n. n == 0) z) ∙ sym (ap (λ n. (n == 0) && has set (port by 1 x)) z)
    by_bit (suc (suc t)) z lt = absurd (omega arith)

pub to_second : (by set firsts d : ℕ) → firsts < 2 ^ 64 → IsSetOf (λ x. bit by x == 0) firsts → d ≡ 2 ^ by
    → IsSetOf (λ x. (bit by x == 1) && has set (port by 0 x)) (bit_and (bit_not w64 firsts) (set * 2 ^ d % 2 ^ 64))
to_second by set firsts d small f e x within =
    has_and (bit_not w64 firsts) (set * 2 ^ d % 2 ^ 64) x
    ∙ ap (λ b. b && has (set * 2 ^ d % 2 ^ 64) x) (has_not firsts x small within ∙ ap not (f x within))
    ∙ by_bit (bit by x) refl (bit_at-lt x by)
  where
    by_bit : (t : ℕ) → bit by x ≡ t → t < 2 → (not (bit by x == 0) && has (set * 2 ^ d % 2 ^ 64) x) ≡ ((bit by x == 1) && has set (port by 0 x))
    by_bit zero z lt = ap (λ n. not (n == 0) && has (set * 2 ^ d % 2 ^ 64) x) z ∙ sym (ap (λ n. (n == 1) && has set (port by 0 x)) z)
    by_bit (suc zero) z lt =
        let fits : 2 ^ by ≤ x = room_below by x z in
        ap (λ n. not (n == 0) && has (set * 2 ^ d % 2 ^ 64) x) z
        ∙ has_up set d x within (omega arith)
        ∙ ap (has set) (ap (λ n. x - n) e ∙ sym (first_port by x z))
        ∙ sym (ap (λ n. (n == 1) && has set (port by 0 x)) z)
    by_bit (suc (suc t)) z lt = absurd (omega arith)

-- the two labels of a switch, of all labels
abbrev are_ports : ℕ → ℕ → Bool
are_ports by x =
    nat_lt (port by 1 x) 64 && (bit by (port by 0 x) == 0) && (bit by (port by 1 x) == 1) && (port by 0 (port by 0 x) == port by 0 x)
    && (port by 0 (port by 1 x) == port by 0 x) && (port by 1 (port by 0 x) == port by 1 x) && (port by 1 (port by 1 x) == port by 1 x)

ports_hold : (by x : ℕ) → by < 6 → x < 64 → are_ports by x ≡ true
ports_hold zero x h within = agree_below_at (are_ports 0) (λ x. true) 64 x refl within
ports_hold (suc zero) x h within = agree_below_at (are_ports 1) (λ x. true) 64 x refl within
ports_hold (suc (suc zero)) x h within = agree_below_at (are_ports 2) (λ x. true) 64 x refl within
ports_hold (suc (suc (suc zero))) x h within = agree_below_at (are_ports 3) (λ x. true) 64 x refl within
ports_hold (suc (suc (suc (suc zero)))) x h within = agree_below_at (are_ports 4) (λ x. true) 64 x refl within
ports_hold (suc (suc (suc (suc (suc zero))))) x h within = agree_below_at (are_ports 5) (λ x. true) 64 x refl within
ports_hold (suc (suc (suc (suc (suc (suc by)))))) x h within = absurd (omega arith)

pub record ArePorts (by x : ℕ) : Type 0 where
  pub below : port by 1 x < 64
  pub bit_0 : bit by (port by 0 x) ≡ 0
  pub bit_1 : bit by (port by 1 x) ≡ 1
  pub again_00 : port by 0 (port by 0 x) ≡ port by 0 x
  pub again_01 : port by 0 (port by 1 x) ≡ port by 0 x
  pub again_10 : port by 1 (port by 0 x) ≡ port by 1 x
  pub again_11 : port by 1 (port by 1 x) ≡ port by 1 x

pub ports_of : (by x : ℕ) → by < 6 → x < 64 → ArePorts by x
ports_of by x h within =
    let g = and_parts _ _ (ports_hold by x h within) in
    let f = and_parts _ _ g.0 in
    let e = and_parts _ _ f.0 in
    let d = and_parts _ _ e.0 in
    let c = and_parts _ _ d.0 in
    let b = and_parts _ _ c.0 in
    record {
      below = ltb-true _ _ b.0;
      bit_0 = eqb-true _ _ b.1;
      bit_1 = eqb-true _ _ c.1;
      again_00 = eqb-true _ _ d.1;
      again_01 = eqb-true _ _ e.1;
      again_10 = eqb-true _ _ f.1;
      again_11 = eqb-true _ _ g.1;
    }

pub same_first : (by x : ℕ) → bit by x ≡ 0 → port by 0 x ≡ x
same_first by x e = ap (λ n. x - n * 2 ^ by + 0 * 2 ^ by) e ∙ same (2 ^ by)
  where
    same : (d : ℕ) → x - 0 * d + 0 * d ≡ x
    same d = omega arith

pub same_second : (by x : ℕ) → bit by x ≡ 1 → port by 1 x ≡ x
same_second by x e = ap (λ n. x - n * 2 ^ by + 1 * 2 ^ by) e ∙ same (2 ^ by) (room_below by x e)
  where
    same : (d : ℕ) → d ≤ x → x - 1 * d + 1 * d ≡ x
    same d h = omega arith
