-- A step is wide enough.
use Rattle.std.proofs.Common.{◌≡◌, ℕ, ◌<◌, ◌≤◌, ◌*◌, nat_le, cond, List, [], ◌∷◌, Bool, true, false, Option, Some, unwrap_or, refl, arith}
use Rattle.std.specs.List.{find}
use Rattle.std.proofs.lemmas.Bool.{leb-true}
use Rattle.std.proofs.Math.Nat.{mul-le-mul_left}

wide : (span most x : ℕ) (o : Option ℕ) (b : Bool) → nat_le span (x * most) ≡ b → span ≤ unwrap_or o span * most → span ≤ unwrap_or (cond b (Some x) o) span * most
wide span most x o true e h = leb-true span (x * most) e
wide span most x o false e h = h

pub find_wide : (span most : ℕ) (xs : List ℕ) → 0 < most → span ≤ unwrap_or (find (λ step. nat_le span (step * most)) xs) span * most
find_wide span most [] some = omega (arith, mul-le-mul_left span some)
find_wide span most (x ∷ xs) some = wide span most x (find (λ step. nat_le span (step * most)) xs) (nat_le span (x * most)) refl (find_wide span most xs some)
