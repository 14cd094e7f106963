-- Where a scale places a value.
use Rattle.std.specs.Prelude.{ℕ, ◌+◌, ◌-◌, ◌*◌, ◌/◌, nat_le, if◌then◌else◌, min}

-- how much of a length the part `done` of `span` is, rounded down
abbrev pub share_of : ℕ → ℕ → ℕ → ℕ
share_of length done span = length * done / span

-- the place of a value on a scale of the values a to b over the places s to e: as far from s as the value is from a, in
-- parts of the whole; values outside of a to b stand at the nearer end
abbrev pub place_of : ℕ → ℕ → ℕ → ℕ → ℕ → ℕ
place_of a b s e value =
    if nat_le b a then s
    else (if nat_le s e then s + share_of (e - s) (min (value - a) (b - a)) (b - a)
    else s - share_of (s - e) (min (value - a) (b - a)) (b - a))
