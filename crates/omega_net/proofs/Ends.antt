-- Wires and the components at their ends.
use Rattle.std.proofs.Common.{◌≡◌, ℕ, zero, suc, ◌+◌, ◌*◌, ◌/◌, ◌%◌, ◌^◌, ◌<◌, ◌≤◌, Bool, true, false, cond, refl, ap, arith}
use Rattle.std.specs.Prelude.{◌==◌}
use Rattle.std.proofs.lemmas.Bool.{eqb-true}
use Rattle.std.proofs.lemmas.Bool.Decides.{nat_tests}
use Rattle.std.proofs.lemmas.Nat.{mul-add-lt, mod-mul-add}
use Rattle.std.proofs.Math.Nat.{mod-lt, div-lt_iff_lt-mul}
use Rattle.omega_net.specs.declared.component.Net.{Net}
use Rattle.omega_net.specs.declared.component.Component.TheVariants.{Module, Switch}
use Rattle.omega_net.specs.declared.wire.Wire.{Wire}
use Rattle.omega_net.specs.Numbers.{half, Exists}
use Rattle.omega_net.specs.Wires.{IsWire, upper_at, upper_end, lower_end, input_of, wire_into, wire_out}
use Rattle.omega_net.proofs.Numbering.{half_twice, half_some, by_no_half}

-- the ends of a wire are there
pub upper_exists : (k : ℕ) (w : Wire) → IsWire k w → Exists k (upper_end w)
upper_exists k w a = by_stage w.net w.stage w.line a.0 a.1
  where
    by_stage : (n : Net) (s l : ℕ) → s ≤ k → l < 2 ^ k → Exists k (upper_at n s l)
    by_stage n zero l a b = b
    by_stage n (suc s) l a b = (omega arith, omega (arith, half_twice k s (omega arith)))

pub lower_exists : (k : ℕ) (w : Wire) → IsWire k w → Exists k (lower_end k w)
lower_exists k w a = by_test (w.stage == k) refl
  where
    by_test : (t : Bool) → (w.stage == k) ≡ t → Exists k (cond t (Module w.line) (Switch w.net w.stage (w.line % half k)))
    by_test true e = a.1
    by_test false e =
        let within : w.stage ≤ k = a.0 in
        let lt : w.stage < k = grind (arith, nat_tests) in
        (lt, mod-lt w.line (half_some k w.stage lt))

-- a wire into a switch ends there, and one out of it begins there
pub into_ends : (k : ℕ) (n : Net) (s j i : ℕ) → s < k → j < half k → lower_end k (wire_into k n s j i) ≡ Switch n s j
into_ends k n s j i a b = by_test (s == k) refl (mod-mul-add i (half k) j b)
  where
    by_test : (t : Bool) → (s == k) ≡ t → (i * half k + j) % half k ≡ j
        → cond t (Module (i * half k + j)) (Switch n s ((i * half k + j) % half k)) ≡ Switch n s j
    by_test true e m = let same : s ≡ k = eqb-true s k e in absurd (omega arith)
    by_test false e m = ap (λ l. Switch n s l) m

pub out_begins : (n : Net) (s j o : ℕ) → o < 2 → upper_end (wire_out n s j o) ≡ Switch n s j
out_begins n s j o a = let e : (2 * j + o) / 2 ≡ j = omega arith in ap (λ l. Switch n s l) e

pub into_line : (k s j i : ℕ) → s < k → j < half k → i < 2 → i * half k + j < 2 ^ k
into_line k s j i a b c = omega (arith, half_twice k s a, mul-add-lt i (half k) j 2 c b)

pub out_line : (k s j o : ℕ) → s < k → j < half k → o < 2 → 2 * j + o < 2 ^ k
out_line k s j o a b c = omega (arith, half_twice k s a)

-- a wire meets a switch at input 0 or 1
pub input_port : (k : ℕ) (w : Wire) → IsWire k w → 0 < half k → input_of k w < 2
input_port zero w a pos = absurd (omega arith)
input_port (suc k) w a pos =
    let lines_are : half (suc k) + half (suc k) ≡ 2 ^ suc k = half_twice (suc k) k (omega arith) in
    let line : w.line < 2 ^ suc k = a.1 in
    (div-lt_iff_lt-mul pos).1 (omega arith)

-- also where there is no stage
pub input_within : (k : ℕ) (w : Wire) → IsWire k w → input_of k w < 2
input_within zero w a = let none : w.line / half 0 ≡ 0 = by_no_half w.line in omega arith
input_within (suc k) w a = input_port (suc k) w a (half_some (suc k) k (omega arith))
