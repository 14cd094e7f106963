-- Pacing: how long a worker's next slice is.
use Rattle.std.specs.Prelude.{ℕ, ◌*◌, ◌/◌, if◌then◌else◌, nat_lt, min, max}

-- how many cells a slice has at least, and the first one
abbrev pub least_cells : ℕ
least_cells = 16_384

-- and at most
abbrev pub most_cells : ℕ
most_cells = 131_072

-- behind a slice of so many cells that took so many nanoseconds the next one has twice as many where that was less than half a
-- millisecond, half as many where it was more than a whole one, and else as many
abbrev pub paced : ℕ → ℕ → ℕ
paced cells nanos =
    max (min (if nat_lt nanos 500_000 then cells * 2 else if nat_lt 1_000_000 nanos then cells / 2 else cells) most_cells) least_cells
