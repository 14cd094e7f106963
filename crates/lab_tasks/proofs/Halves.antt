-- There are at most 13 times 7 shares before those of a machine.
use Rattle.std.proofs.Common.{ℕ, ◌*◌, ◌≤◌, arith}
use Rattle.std.proofs.Math.Nat.{mul-le-mul}

pub few_before : (half shares : ℕ) → half ≤ 13 → shares ≤ 7 → half * shares ≤ 91
few_before half shares h s = omega (arith, mul-le-mul h s)
