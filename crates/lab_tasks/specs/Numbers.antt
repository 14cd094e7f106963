-- Numbers, lists and ranges among the words.
use Rattle.std.specs.Prelude.{◌≡◌, ◌≤◌, ℕ, ◌+◌, ◌==◌, List, [], ◌∷◌, take, drop, position, Option, None, Some, option_map}
use Rattle.std.specs.Prelude.{map, Bool, true, false, ◌&&◌, nat_le, length, codes, MatchBool}
use Rattle.std.specs.List.{slice_split, list_all}
use Rattle.line_words.specs.Numbers.{number_of}
use Rattle.lab_tasks.specs.declared.end.End.{End}
use Rattle.lab_tasks.specs.declared.end.End.TheVariants.{Memory}
use Rattle.lab_tasks.specs.Ends.{RefusesForm, RefusesRange}

-- what stands before and behind the first b
abbrev pub parts_at : ℕ → List ℕ → Option (List ℕ × List ℕ)
parts_at b text = option_map (λ i. (take i text, drop (i + 1) text)) (position (λ x. x == b) text)

abbrev pub both_of : Option ℕ → Option ℕ → Option (ℕ × ℕ)
both_of (Some a) (Some b) = Some (a, b)
both_of _ _ = None

-- behind the first point another one, and then the second number
abbrev pub second_of : List ℕ → Option (List ℕ × List ℕ) → Option (ℕ × ℕ)
second_of from (Some ([], to)) = both_of (number_of from) (number_of to)
second_of from _ = None

-- the numbers of a text `FROM..TO`
abbrev pub range_parts : Option (List ℕ × List ℕ) → Option (ℕ × ℕ)
range_parts (Some (from, rest)) = second_of from (parts_at 46 rest)
range_parts None = None

abbrev pub range_of : List ℕ → Option (ℕ × ℕ)
range_of text = range_parts (parts_at 46 text)

-- all values, where each is there
abbrev pub all_of : List (Option ℕ) → Option (List ℕ)
all_of [] = Some []
all_of (None ∷ others) = None
all_of (Some n ∷ others) = option_map (λ ns. n ∷ ns) (all_of others)

-- the numbers of a text `N,N,..`
abbrev pub list_of : List ℕ → Option (List ℕ)
list_of text = all_of (map number_of (slice_split (λ x. x == 44) text))

-- the number at an option: a usual one without a word, else the word's, which is within two others
abbrev pub IsTold : Option (List ℕ) → ℕ → ℕ → ℕ → ℕ → Type 0
IsTold None usual least most n = n ≡ usual
IsTold (Some word) usual least most n = (number_of word ≡ Some n) × (least ≤ n) × (n ≤ most)

-- a number within two others
abbrev pub is_within : ℕ → ℕ → ℕ → Bool
is_within least most n = nat_le least n && nat_le n most

-- why the word at an option gives no number
abbrev pub RefusesNumber : List ℕ → List ℕ → ℕ → ℕ → Option ℕ → End → Type 0
RefusesNumber option word least most None end = RefusesForm option word (codes "a number") end
RefusesNumber option word least most (Some n) end = (is_within least most n ≡ false) × RefusesRange option word least most end

abbrev pub IsUntold : List ℕ → Option (List ℕ) → ℕ → ℕ → End → Type 0
IsUntold option None least most end = ⊥
IsUntold option (Some word) least most end = RefusesNumber option word least most (number_of word) end

-- shares: seven usual ones without a word, else the word's, which are at most seven numbers up to a hundred
abbrev pub are_hundredths : List ℕ → Bool
are_hundredths shares = list_all (λ share. nat_le share 100) shares

abbrev pub AreShares : Option (List ℕ) → List ℕ → Type 0
AreShares None shares = shares ≡ 0 ∷ 1 ∷ 2 ∷ 4 ∷ 8 ∷ 16 ∷ 32 ∷ []
AreShares (Some word) shares = (list_of word ≡ Some shares) × (length shares ≤ 7) × (are_hundredths shares ≡ true)

-- why a word gives no shares
abbrev pub RefusesShares : List ℕ → Option (List ℕ) → End → Type 0
RefusesShares word None end = RefusesForm (codes "--hot") word (codes "numbers with commas between") end
RefusesShares word (Some shares) end =
    MatchBool (nat_le (length shares) 7) ((are_hundredths shares ≡ false) × RefusesRange (codes "--hot") word 0 100 end)
    (RefusesForm (codes "--hot") word (codes "up to seven numbers") end)

abbrev pub AreNoShares : Option (List ℕ) → End → Type 0
AreNoShares word Memory = Unit {0}
AreNoShares None end = ⊥
AreNoShares (Some word) end = RefusesShares word (list_of word) end
