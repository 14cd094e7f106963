-- The limits of the file itself; those of what it says are the project's.
use Rattle.std.specs.Prelude.{ℕ}

-- how many bytes a project file may have, and one that isn't of format 3
abbrev pub max_bytes : ℕ
max_bytes = 67108864

abbrev pub usual_bytes : ℕ
usual_bytes = 4194304

-- the greatest k and the greatest horizon of a file of format 1, which knows no larger machine and no longer run
abbrev pub first_max_k : ℕ
first_max_k = 5

abbrev pub first_max_horizon : ℕ
first_max_horizon = 1000
