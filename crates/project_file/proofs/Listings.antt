-- The words of a memory are in order.
use Rattle.std.proofs.Common.{◌≡◌, ℕ, ◌+◌, ◌<◌, ◌≤◌, ◌==◌, Bool, true, false, cond, List, [], ◌∷◌, ◌++◌, length, All, arith, refl}
use Rattle.std.specs.Prelude.{AllPairs, unwrap_or}
use Rattle.std.proofs.lemmas.Bool.Decides.{nat_tests}
use Rattle.std.proofs.lemmas.List.Elements.{All-nil, All-cons, All-append}
use Rattle.std.proofs.lemmas.List.Kept.{AllPairs-cons}
use Rattle.page_map.specs.Limits.{address_count}
use Rattle.project_book.specs.declared.words.FirstWord.{FirstWord}
use Rattle.project_book.specs.FirstWords.{IsListing, listed}
use Rattle.project_file.specs.Words.{Memory, words_from}

abbrev at : ℕ → ℕ → FirstWord
at a word = record { address = a; word = word }

abbrev IsBefore : FirstWord → FirstWord → Type 0
IsBefore v w = v.address < w.address

-- what holds of an address and its word, where that isn't 0, holds of each word listed for it
all_listed : (P : FirstWord → Type 0) (a word : ℕ) → (0 < word → P (at a word)) → All P (listed a word)
all_listed P a word holds = by_word (word == 0) (grind (arith, nat_tests))
  where
    by_word : (zero : Bool) → (zero ≡ false → 0 < word) → All P (cond zero [] (at a word ∷ []))
    by_word true some = All-nil P
    by_word false some = All-cons P (at a word) [] (holds (some refl)) (All-nil P)

all_from : (P : FirstWord → Type 0) (a : ℕ) (memory : Memory) → ((b word : ℕ) → a ≤ b → b < a + length memory → 0 < word → P (at b word)) → All P (words_from a memory)
all_from P a [] holds = All-nil P
all_from P a (m ∷ memory) holds =
    All-append P (listed a (unwrap_or m 0)) (words_from (a + 1) memory) (all_listed P a (unwrap_or m 0) (λ some. holds a (unwrap_or m 0) (omega arith) (omega arith) some)) (all_from P (a + 1) memory (λ b word low high some. holds b word (omega arith) (omega arith) some))

pairs_more : (a word : ℕ) (ws : List FirstWord) → AllPairs IsBefore ws → All (IsBefore (at a word)) ws → AllPairs IsBefore (listed a word ++ ws)
pairs_more a word ws pairs first = by_word (word == 0)
  where
    by_word : (zero : Bool) → AllPairs IsBefore (cond zero [] (at a word ∷ []) ++ ws)
    by_word true = pairs
    by_word false = AllPairs-cons IsBefore (at a word) ws first pairs

pairs_from : (a : ℕ) (memory : Memory) → AllPairs IsBefore (words_from a memory)
pairs_from a [] = λ i j d h l. absurd (omega arith)
pairs_from a (m ∷ memory) =
    pairs_more a (unwrap_or m 0) (words_from (a + 1) memory) (pairs_from (a + 1) memory) (all_from (IsBefore (at a (unwrap_or m 0))) (a + 1) memory (λ b word low high some. omega arith))

pub words_are_listed : (memory : Memory) → length memory ≤ address_count → IsListing (words_from 0 memory)
words_are_listed memory few = record {
  ascending = pairs_from 0 memory;
  within = all_from (λ w. w.address < address_count) 0 memory (λ b word low high some. omega arith);
  nonzero = all_from (λ w. 0 < w.word) 0 memory (λ b word low high some. some);
}
