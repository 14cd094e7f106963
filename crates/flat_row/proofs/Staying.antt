-- Ports of labels are labels of the same machine.
use Rattle.std.proofs.Common.{◌≡◌, ℕ, zero, suc, ◌+◌, ◌-◌, ◌*◌, ◌^◌, ◌<◌, ◌≤◌, Bool, true, false, refl, ap, sym, subst, ◌∙◌, arith}
use Rattle.std.specs.Prelude.{◌&&◌, not, nat_lt}
use Rattle.std.proofs.lemmas.Bool.{agree_below_at, lt-ltb, ltb-true}
use Rattle.std.proofs.Math.Pow.{pow_mono}
use Rattle.omega_net.specs.Numbers.{lines, half}
use Rattle.omega_net.specs.Wires.{bit}
use Rattle.flat_row.specs.Labels.{rotated_right, port}
use Rattle.flat_row.proofs.Holding.{port_within}

abbrev port_out : ℕ → ℕ → ℕ → Bool
port_out k b x = nat_lt x (2 ^ k) && not (nat_lt (port b 1 x) (2 ^ k))

no_port_out : (k b x : ℕ) → b < k → k ≤ 6 → x < 64 → port_out k b x ≡ false
no_port_out zero b x h small few = absurd (omega arith)
no_port_out (suc zero) zero x h small few = agree_below_at (port_out 1 0) (λ x. false) 64 x refl few
no_port_out (suc zero) (suc b) x h small few = absurd (omega arith)
no_port_out (suc (suc zero)) zero x h small few = agree_below_at (port_out 2 0) (λ x. false) 64 x refl few
no_port_out (suc (suc zero)) (suc zero) x h small few = agree_below_at (port_out 2 1) (λ x. false) 64 x refl few
no_port_out (suc (suc zero)) (suc (suc b)) x h small few = absurd (omega arith)
no_port_out (suc (suc (suc zero))) zero x h small few = agree_below_at (port_out 3 0) (λ x. false) 64 x refl few
no_port_out (suc (suc (suc zero))) (suc zero) x h small few = agree_below_at (port_out 3 1) (λ x. false) 64 x refl few
no_port_out (suc (suc (suc zero))) (suc (suc zero)) x h small few = agree_below_at (port_out 3 2) (λ x. false) 64 x refl few
no_port_out (suc (suc (suc zero))) (suc (suc (suc b))) x h small few = absurd (omega arith)
no_port_out (suc (suc (suc (suc zero)))) zero x h small few = agree_below_at (port_out 4 0) (λ x. false) 64 x refl few
no_port_out (suc (suc (suc (suc zero)))) (suc zero) x h small few = agree_below_at (port_out 4 1) (λ x. false) 64 x refl few
no_port_out (suc (suc (suc (suc zero)))) (suc (suc zero)) x h small few = agree_below_at (port_out 4 2) (λ x. false) 64 x refl few
no_port_out (suc (suc (suc (suc zero)))) (suc (suc (suc zero))) x h small few = agree_below_at (port_out 4 3) (λ x. false) 64 x refl few
no_port_out (suc (suc (suc (suc zero)))) (suc (suc (suc (suc b)))) x h small few = absurd (omega arith)
no_port_out (suc (suc (suc (suc (suc zero))))) zero x h small few = agree_below_at (port_out 5 0) (λ x. false) 64 x refl few
no_port_out (suc (suc (suc (suc (suc zero))))) (suc zero) x h small few = agree_below_at (port_out 5 1) (λ x. false) 64 x refl few
no_port_out (suc (suc (suc (suc (suc zero))))) (suc (suc zero)) x h small few = agree_below_at (port_out 5 2) (λ x. false) 64 x refl few
no_port_out (suc (suc (suc (suc (suc zero))))) (suc (suc (suc zero))) x h small few = agree_below_at (port_out 5 3) (λ x. false) 64 x refl few
no_port_out (suc (suc (suc (suc (suc zero))))) (suc (suc (suc (suc zero)))) x h small few = agree_below_at (port_out 5 4) (λ x. false) 64 x refl few
no_port_out (suc (suc (suc (suc (suc zero))))) (suc (suc (suc (suc (suc b))))) x h small few = absurd (omega arith)
no_port_out (suc (suc (suc (suc (suc (suc zero)))))) zero x h small few = agree_below_at (port_out 6 0) (λ x. false) 64 x refl few
no_port_out (suc (suc (suc (suc (suc (suc zero)))))) (suc zero) x h small few = agree_below_at (port_out 6 1) (λ x. false) 64 x refl few
no_port_out (suc (suc (suc (suc (suc (suc zero)))))) (suc (suc zero)) x h small few = agree_below_at (port_out 6 2) (λ x. false) 64 x refl few
no_port_out (suc (suc (suc (suc (suc (suc zero)))))) (suc (suc (suc zero))) x h small few = agree_below_at (port_out 6 3) (λ x. false) 64 x refl few
no_port_out (suc (suc (suc (suc (suc (suc zero)))))) (suc (suc (suc (suc zero)))) x h small few = agree_below_at (port_out 6 4) (λ x. false) 64 x refl few
no_port_out (suc (suc (suc (suc (suc (suc zero)))))) (suc (suc (suc (suc (suc zero))))) x h small few = agree_below_at (port_out 6 5) (λ x. false) 64 x refl few
no_port_out (suc (suc (suc (suc (suc (suc zero)))))) (suc (suc (suc (suc (suc (suc b)))))) x h small few = absurd (omega arith)
no_port_out (suc (suc (suc (suc (suc (suc (suc k))))))) b x h small few = absurd (omega arith)

inside : (t : Bool) → not t ≡ false → t ≡ true
inside true e = refl
inside false e = cc

pub port_stays : (k b x i : ℕ) → b < k → k ≤ 6 → i < 2 → x < 2 ^ k → port b i x < 2 ^ k
port_stays k b x zero lt few h within = omega (arith, second, first (x - bit b x * 2 ^ b) (2 ^ b))
  where
    most : 2 ^ k ≤ 64
    most = pow_mono few

    small : x < 64
    small = omega (arith, most, within)

    first : (a d : ℕ) → a + 0 * d ≤ a + 1 * d
    first a d = omega arith

    second : port b 1 x < 2 ^ k
    second = ltb-true (port b 1 x) (2 ^ k) (inside (nat_lt (port b 1 x) (2 ^ k)) (sym (ap (λ t. t && not (nat_lt (port b 1 x) (2 ^ k))) (lt-ltb x (2 ^ k) within)) ∙ no_port_out k b x lt few small))
port_stays k b x (suc zero) lt few h within = ltb-true (port b 1 x) (2 ^ k) (inside (nat_lt (port b 1 x) (2 ^ k)) (sym (ap (λ t. t && not (nat_lt (port b 1 x) (2 ^ k))) (lt-ltb x (2 ^ k) within)) ∙ no_port_out k b x lt few small))
  where
    most : 2 ^ k ≤ 64
    most = pow_mono few

    small : x < 64
    small = omega (arith, most, within)
port_stays k b x (suc (suc i)) lt few h within = absurd (omega arith)

-- the labels of a switch's ports
pub ports_within : (k s j x d w : ℕ) → s < k → j < half k → x ≡ rotated_right k s j → x < lines k → d ≡ k - 1 - s → w ≡ 2 ^ d → (x < lines k) × (x + w < lines k)
ports_within k s j x d w lt small is within e f =
    (within, later x (2 ^ (k - 1 - s)) w (lines k) (subst (λ a. a + 1 * 2 ^ (k - 1 - s) < lines k) (sym is) (port_within k s j 1 lt small (omega arith))) (f ∙ ap (λ n. 2 ^ n) e))
  where
    later : (a p w most : ℕ) → a + 1 * p < most → w ≡ p → a + w < most
    later a p w most h e = omega (arith, h, e)

pub ports_small : (k : ℕ) → k ≤ 6 → (s j x d w : ℕ) → s < k → j < half k → x ≡ rotated_right k s j → x < lines k → d ≡ k - 1 - s → w ≡ 2 ^ d → (x < 64) × (x + w < 64)
ports_small k few s j x d w lt small is within e f =
    let p = ports_within k s j x d w lt small is within e f in
    let most : 2 ^ k ≤ 64 = pow_mono few in
    let a : x < 2 ^ k = p.0 in
    let b : x + w < 2 ^ k = p.1 in
    (omega (arith, a, most), omega (arith, b, most))
