-- The word that somebody may have meant.
use Rattle.std.specs.Prelude.{ℕ, ◌+◌, ◌/◌, List, [], ◌∷◌, ◌++◌, Option, None, Some, min, length, nat_lt, nat_eq, bytes_eq, codes, if◌then◌else◌}
use Rattle.strsim.specs.Edits.{levenshtein_row}
use Rattle.line_words.specs.Words.{words_of}
use Rattle.word_ops.specs.Words.{kinds, names_of}

-- the words of commands, those of the shell first
unfoldable pub names_text : List ℕ
names_text = codes "quit help show script save undo latency done trace full busy series entry cut word page depth wait combine window horizon reply state memory counter profile tree level bound place order low-forward low-reverse comb-forward comb-reverse module on off sync plain until fence idle" ++ names_of kinds ++ codes " issued answered served combined waiting all low comb --processor --network --address --page --hot --cold --from --to --of --bin queue stage"

-- how many letters of a word are wrong, missing or too many beside a name
abbrev pub slips : List ℕ → List ℕ → ℕ
slips word name = levenshtein_row nat_eq word name (length name)

-- slips from which on a word is nobody's slip: of two or three letters one may be wrong, of more two
abbrev pub too_many : List ℕ → ℕ
too_many word = min (length word / 2 + 1) 3

-- the first of the names with the fewest slips, where these are fewer than `least`; else what was found before
abbrev pub nearest_from : Option (List ℕ) → ℕ → List ℕ → List (List ℕ) → Option (List ℕ)
nearest_from found least word [] = found
nearest_from found least word (name ∷ names) =
    if nat_lt (slips word name) least then nearest_from (Some name) (slips word name) word names else nearest_from found least word names

abbrev pub nearest : List (List ℕ) → List ℕ → Option (List ℕ)
nearest names word = nearest_from None (too_many word) word names

-- a name that a word may be, where it isn't that name
abbrev pub other : List ℕ → Option (List ℕ) → Option (List ℕ)
other word None = None
other word (Some name) = if bytes_eq name word then None else Some name

abbrev pub or_else : Option (List ℕ) → Option (List ℕ) → Option (List ℕ)
or_else None later = later
or_else (Some name) later = Some name

-- the name that the first of these words may be that is none of the names and is near to one
abbrev pub slip_in : List (List ℕ) → List (List ℕ) → Option (List ℕ)
slip_in names [] = None
slip_in names (word ∷ words) = or_else (other word (nearest names word)) (slip_in names words)

abbrev pub slip_of : List (List ℕ) → Option (List ℕ)
slip_of words = slip_in (words_of names_text) words
