-- The limit of what a bench keeps of its answers.
use Rattle.std.specs.Prelude.{ℕ}

-- how many answers are kept
abbrev pub kept_answers : ℕ
kept_answers = 64
