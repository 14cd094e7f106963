-- What may be put in for a brace.
use Rattle.std.specs.Prelude.{ℕ, ◌+◌, ◌-◌, ◌==◌, nat_le, if◌then◌else◌, List, [], ◌∷◌, map, Option, None, Some, option_map, bytes_eq, codes, decimal}
use Rattle.std.specs.List.{slice_split}
use Rattle.omega_net.specs.Wires.{below}
use Rattle.line_words.specs.Numbers.{number_of}
use Rattle.edit_templates.specs.declared.put.Put.{Put}
use Rattle.edit_templates.specs.declared.put.Put.TheVariants.{Number, Word}
use Rattle.edit_templates.specs.declared.choices.Choices.{Choices}
use Rattle.edit_templates.specs.declared.choices.Choices.TheVariants.{Range, Words}

-- what stands before and behind the first c
abbrev pub cut_at : ℕ → List ℕ → Option (List ℕ × List ℕ)
cut_at c [] = None
cut_at c (b ∷ bs) = if b == c then Some ([], bs) else option_map (λ parts. (b ∷ parts.0, parts.1)) (cut_at c bs)

-- a number, or `k` for the k of the machine
abbrev pub limit_of : ℕ → List ℕ → Option ℕ
limit_of k word = if bytes_eq word (codes "k") then Some k else number_of word

-- from one number to another that isn't less
abbrev pub upwards : Option ℕ → Option ℕ → Option (ℕ × ℕ)
upwards (Some a) (Some b) = if nat_le a b then Some (a, b) else None
upwards _ _ = None

abbrev pub range_second : ℕ → List ℕ → Option (List ℕ × List ℕ) → Option (ℕ × ℕ)
range_second k from (Some ([], to)) = upwards (limit_of k from) (limit_of k to)
range_second k from _ = None

abbrev pub range_parts : ℕ → Option (List ℕ × List ℕ) → Option (ℕ × ℕ)
range_parts k (Some (from, rest)) = range_second k from (cut_at 46 rest)
range_parts k None = None

-- the two numbers of `A..B`
abbrev pub range_of : ℕ → List ℕ → Option (ℕ × ℕ)
range_of k inside = range_parts k (cut_at 46 inside)

-- the numbers of a range in turn, and else the words between the commas
abbrev pub choices_for : List ℕ → Option (ℕ × ℕ) → List (List ℕ)
choices_for inside (Some (a, b)) = map (λ i. decimal (a + i)) (below (b + 1 - a))
choices_for inside None = slice_split (λ b. b == 44) inside

-- what may be put in for a brace, by what is in it
abbrev pub choices_of : ℕ → List ℕ → List (List ℕ)
choices_of k inside = choices_for inside (range_of k inside)

-- a word that is put in, as text
abbrev pub put_text : Put → List ℕ
put_text (Number n) = decimal n
put_text (Word word) = word.now

-- what is kept of a brace is what may be put in
abbrev pub kept_choices : Choices → List (List ℕ)
kept_choices (Range span) = map (λ i. decimal (span.from + i)) (below (span.to + 1 - span.from))
kept_choices (Words words) = map (λ word. word.now) words.items
