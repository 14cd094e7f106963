-- The sizes of sums.
use Rattle.std.specs.Prelude.{ℕ, ◌+◌, ◌/◌}

-- how many components the largest machine has
abbrev pub max_components : ℕ
max_components = 512

-- how many lengths a queue can have: from 0 to the places that it has
abbrev pub profile_lengths : ℕ
profile_lengths = 17

-- how many blocks of 32 cycles the cycles from 0 to `last` are; the last one may have fewer
abbrev pub blocks : ℕ → ℕ
blocks last = (last + 32) / 32
