-- The limit of a line.
use Rattle.std.specs.Prelude.{ℕ}

-- how many places a line can have
abbrev pub longest_line : ℕ
longest_line = 64
