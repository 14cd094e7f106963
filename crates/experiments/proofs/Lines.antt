-- Lines and the switches that have them.
use Rattle.std.proofs.Common.{ℕ, ◌/◌, ◌<◌, arith}
use Rattle.omega_net.specs.Numbers.{lines, half}
use Rattle.omega_net.proofs.Numbering.{half_twice}

-- a line's switch is there
pub switch_there : (k s l : ℕ) → s < k → l < lines k → l / 2 < half k
switch_there k s l h there = omega (arith, half_twice k s h)
