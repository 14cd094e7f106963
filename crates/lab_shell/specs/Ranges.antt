-- Lines with a range of processors.
use Rattle.std.specs.Prelude.{ℕ, ◌+◌, ◌-◌, ◌==◌, Bool, ◌&&◌, ◌||◌, nat_le, nat_lt, if◌then◌else◌, List, [], ◌∷◌, ◌++◌, map, take, drop, position, Option, None, Some, option_map, bytes_eq, codes, decimal}
use Rattle.std.specs.List.{flat_map}
use Rattle.omega_net.specs.Wires.{below}
use Rattle.line_words.specs.Numbers.{number_of}

-- the words behind which a range may stand
abbrev pub takes_range : List ℕ → Bool
takes_range word = bytes_eq word (codes "entry") || bytes_eq word (codes "cut")

-- what stands before and behind the first point
abbrev pub at_point : List ℕ → Option (List ℕ × List ℕ)
at_point text = option_map (λ i. (take i text, drop (i + 1) text)) (position (λ b. b == 46) text)

-- from one number to another that isn't less, 64 of them at most
abbrev pub upwards : Option ℕ → Option ℕ → Option (ℕ × ℕ)
upwards (Some a) (Some b) = if nat_le a b && nat_lt (b - a) 64 then Some (a, b) else None
upwards _ _ = None

-- behind the first point another one, and then the second number
abbrev pub second_end : List ℕ → Option (List ℕ × List ℕ) → Option (ℕ × ℕ)
second_end from (Some ([], to)) = upwards (number_of from) (number_of to)
second_end from _ = None

abbrev pub both_ends : Option (List ℕ × List ℕ) → Option (ℕ × ℕ)
both_ends (Some (from, rest)) = second_end from (at_point rest)
both_ends None = None

-- the two numbers of `A..B`
abbrev pub range_of : List ℕ → Option (ℕ × ℕ)
range_of word = both_ends (at_point word)

-- words, each behind a space
abbrev pub spaced : List (List ℕ) → List ℕ
spaced words = flat_map (λ word. 32 ∷ word) words

-- a command for one processor
abbrev pub range_line : List ℕ → List ℕ → ℕ → List ℕ
range_line word behind p = word ++ (32 ∷ (decimal p ++ behind))

abbrev pub lines_for : List ℕ → List ℕ → Option (ℕ × ℕ) → List (List ℕ)
lines_for word behind (Some (a, b)) = map (λ i. range_line word behind (a + i)) (below (b + 1 - a))
lines_for word behind None = []

-- THE LINES that the words of a line stand for: one for each processor of its range; none where it has no range
abbrev pub lines_of_range : List (List ℕ) → List (List ℕ)
lines_of_range (word ∷ range ∷ words) = if takes_range word then lines_for word (spaced words) (range_of range) else []
lines_of_range _ = []
