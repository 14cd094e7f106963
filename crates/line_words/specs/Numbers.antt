-- The numbers among words.
use Rattle.std.specs.Prelude.{ℕ, ◌+◌, ◌-◌, ◌*◌, Bool, ◌&&◌, List, [], ◌∷◌, length, Option, None, Some, nat_le, nat_lt, if◌then◌else◌}
use Rattle.std.specs.List.{list_all}
use Rattle.std.specs.Char.{is_ascii_digit}

-- the value of decimal digits that follow a number
abbrev pub value_after : ℕ → List ℕ → ℕ
value_after n [] = n
value_after n (d ∷ ds) = value_after (n * 10 + (d - 48)) ds

-- 1 to 10 decimal digits
abbrev pub are_digits : List ℕ → Bool
are_digits w = nat_lt 0 (length w) && nat_le (length w) 10 && list_all is_ascii_digit w

-- and of a value up to 4,294,967,295
abbrev pub is_number : List ℕ → Bool
is_number w = are_digits w && nat_le (value_after 0 w) 4294967295

-- the number that a word is, if it is one
abbrev pub number_of : List ℕ → Option ℕ
number_of w = if is_number w then Some (value_after 0 w) else None
