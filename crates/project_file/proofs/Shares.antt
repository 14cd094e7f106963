-- Hundredths, one number after another.
use Rattle.std.proofs.Common.{◌≡◌, ℕ, zero, suc, ◌+◌, true, false, Float, Some, None, if◌then◌else◌, ap, refl}
use Rattle.project_file.specs.Traffic.{is_share, sought}

pub sought_here : (x : Float) (n more : ℕ) → is_share n x ≡ true → sought x n (suc more) ≡ Some n
unfolding sought
sought_here x n more here = ap (λ b. if b then Some n else sought x (n + 1) more) here

pub sought_behind : (x : Float) (n more : ℕ) → is_share n x ≡ false → sought x n (suc more) ≡ sought x (n + 1) more
unfolding sought
sought_behind x n more other = ap (λ b. if b then Some n else sought x (n + 1) more) other

pub sought_nowhere : (x : Float) (n : ℕ) → sought x n zero ≡ None
unfolding sought
sought_nowhere x n = refl
