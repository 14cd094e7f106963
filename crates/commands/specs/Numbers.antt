-- Commands whose words are numbers.
use Rattle.std.specs.Prelude.{ℕ, List, [], ◌∷◌, Option, None, Some}
use Rattle.line_words.specs.Numbers.{number_of}

-- both, where both are there
abbrev pub both : {A B : Type 0} → Option A → Option B → Option (A × B)
both (Some a) (Some b) = Some (a, b)
both (Some a) None = None
both None b = None

-- the numbers that the words are, where there are just so many words
abbrev pub one_number : List (List ℕ) → Option ℕ
one_number (a ∷ []) = number_of a
one_number _ = None

abbrev pub two_numbers : List (List ℕ) → Option (ℕ × ℕ)
two_numbers (a ∷ b ∷ []) = both (number_of a) (number_of b)
two_numbers _ = None

abbrev pub three_numbers : List (List ℕ) → Option (ℕ × (ℕ × ℕ))
three_numbers [] = None
three_numbers (a ∷ words) = both (number_of a) (two_numbers words)
