-- The words of a line.
use Rattle.std.specs.Prelude.{ℕ, Bool, ◌||◌, List, length, filter, ◌==◌, nat_lt}
use Rattle.std.specs.List.{slice_split}

-- a space, a tab or a CR
abbrev pub is_separator : ℕ → Bool
is_separator b = (b == 32) || (b == 9) || (b == 13)

abbrev pub is_nonempty : List ℕ → Bool
is_nonempty w = nat_lt 0 (length w)

-- the parts between separators that have a byte
abbrev pub words_of : List ℕ → List (List ℕ)
words_of line = filter is_nonempty (slice_split is_separator line)
