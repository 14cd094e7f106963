-- The first words: a list by addresses upwards, in which words of 0 are left out.
use Rattle.std.specs.Prelude.{ℕ, zero, suc, ◌<◌, ◌≤◌, ◌-◌, ◌/◌, ◌%◌, ◌==◌, nat_lt, if◌then◌else◌, Option, None, Some, List, [], ◌∷◌, ◌++◌, length, slice_index_or, filter, find, All, AllPairs}
use Rattle.std.specs.Option.{option_map_or}
use Rattle.page_map.specs.Limits.{address_count, page_words}
use Rattle.project_book.specs.declared.words.FirstWord.{FirstWord}

-- the word of an address, 0 where it isn't listed
abbrev pub word_at : List FirstWord → ℕ → ℕ
word_at ws a = option_map_or (λ w. w.word) (find (λ w. w.address == a) ws) 0

-- one address and its word
abbrev pub listed : ℕ → ℕ → List FirstWord
listed a word = if word == 0 then [] else record { address = a; word = word } ∷ []

-- the words below and above an address
abbrev pub words_below : List FirstWord → ℕ → List FirstWord
words_below ws a = filter (λ w. nat_lt w.address a) ws

abbrev pub words_above : List FirstWord → ℕ → List FirstWord
words_above ws a = filter (λ w. nat_lt a w.address) ws

-- the words where this address has this word
abbrev pub with_word : List FirstWord → ℕ → ℕ → List FirstWord
with_word ws a word = words_below ws a ++ listed a word ++ words_above ws a

-- the list is by addresses upwards, each of which exists, and has no 0
pub record IsListing (ws : List FirstWord) : Type 0 where
  pub ascending : AllPairs (λ v w. v.address < w.address) ws
  pub within : All (λ w. w.address < address_count) ws
  pub nonzero : All (λ w. 0 < w.word) ws

-- of a list by addresses upwards, n words stand below an address
pub record IsSplit (ws : List FirstWord) (a n : ℕ) : Type 0 where
  pub few : n ≤ length ws
  pub below : (d : FirstWord) → 0 < n → (slice_index_or ws (n - 1) d).address < a
  pub from : (d : FirstWord) → n < length ws → a ≤ (slice_index_or ws n d).address

-- what a function gives to the addresses below n, by address upwards
unfoldable pub listed_below : (ℕ → ℕ) → ℕ → List FirstWord
listed_below f zero = []
listed_below f (suc n) = listed_below f n ++ listed n (f n)

-- the word at an offset of a page, 0 where nothing is kept of it
abbrev pub word_on : Option (List ℕ) → ℕ → ℕ
word_on None offset = 0
word_on (Some words) offset = slice_index_or words offset 0

-- the word of an address in pages of 256 words
abbrev pub word_among : List (Option (List ℕ)) → ℕ → ℕ
word_among pages a = word_on (slice_index_or pages (a / page_words) None) (a % page_words)

-- the first words that pages hold
unfoldable pub paged : List (Option (List ℕ)) → List FirstWord
paged pages = listed_below (word_among pages) address_count
