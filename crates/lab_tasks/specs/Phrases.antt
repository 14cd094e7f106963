-- Words of a line as texts of several words: `served m0` behind `--of` is one text.
use Rattle.std.specs.Prelude.{ℕ, Bool, false, ◌||◌, ◌==◌, List, [], ◌∷◌, ◌++◌, codes, if◌then◌else◌}

-- a word that begins with a dash
abbrev pub is_dashed : List ℕ → Bool
is_dashed [] = false
is_dashed (b ∷ bytes) = b == 45

-- a word doesn't go on a text where one of them begins with a dash
abbrev pub stands_apart : List ℕ → List ℕ → Bool
stands_apart text word = is_dashed text || is_dashed word

-- a text, with the words behind it that go on it, a blank before each; then the texts of the words behind these
abbrev pub gathered : List ℕ → List (List ℕ) → List (List ℕ)
gathered text [] = text ∷ []
gathered text (word ∷ words) =
    if stands_apart text word then text ∷ gathered word words
    else gathered (text ++ codes " " ++ word) words

-- the texts of words: one that begins with a dash by itself, others that follow one another as one text
abbrev pub phrases : List (List ℕ) → List (List ℕ)
phrases [] = []
phrases (word ∷ words) = gathered word words
