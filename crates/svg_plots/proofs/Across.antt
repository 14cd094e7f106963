-- Columns stand within the picture.
use Rattle.std.proofs.Common.{ℕ, ◌+◌, ◌-◌, ◌≤◌, Bool, true, false, cond, arith}
use Rattle.std.specs.Prelude.{nat_le, min}
use Rattle.svg_plots.specs.Places.{place_of, share_of}
use Rattle.svg_plots.proofs.Shares.{share_within}

pub column_within : (a b v : ℕ) → place_of a b 900 7700 v ≤ 7700
column_within a b v = chosen (nat_le b a)
  where
    part : share_of 6800 (min (v - a) (b - a)) (b - a) ≤ 6800
    part = share_within 6800 (min (v - a) (b - a)) (b - a) (grind arith)

    chosen : (none : Bool) → cond none 900 (900 + share_of 6800 (min (v - a) (b - a)) (b - a)) ≤ 7700
    chosen true = omega arith
    chosen false = omega (arith, part)
