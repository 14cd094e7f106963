-- A part of a length is no longer.
use Rattle.std.specs.Prelude.{ℕ, ◌*◌, ◌/◌, ◌≤◌}
use Rattle.std.proofs.Math.Nat.{div-le_of_le-mul, mul-le-mul_left}
use Rattle.std.proofs.Common.{arith}

pub share_within : (length done span : ℕ) → done ≤ span → length * done / span ≤ length
share_within length done span h = div-le_of_le-mul span (omega (arith, mul-le-mul_left length h))
