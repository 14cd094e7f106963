-- Which cells of a cycle a worker claims.
use Rattle.std.specs.Prelude.{ℕ, ◌==◌, if◌then◌else◌, min, max}
use Rattle.std.specs.Int.{div_ceil}

-- the part of a cycle that falls to each of so many workers; one alone claims cell by cell
abbrev pub part_of : ℕ → ℕ → ℕ
part_of components workers = if workers == 1 then 1 else div_ceil components workers

-- how many cells a lot has: its part, 64 at most, and no more than the worker has turns
abbrev pub lot_of : ℕ → ℕ → ℕ → ℕ
lot_of components workers turns = min (max (min 64 (part_of components workers)) 1) turns
