-- The key `word`: the first words, each given at most once.
use Rattle.std.specs.Prelude.{ℕ, ◌+◌, ◌-◌, List, [], ◌∷◌, ◌++◌, replicate, Option, None, Some, Result, Ok, codes, is_none, unwrap_or, slice_index_or, slice_set}
use Rattle.toml.specs.Data.{Data, Members}
use Rattle.page_map.specs.Limits.{address_count}
use Rattle.project_book.specs.declared.words.FirstWord.{FirstWord}
use Rattle.project_book.specs.FirstWords.{listed}
use Rattle.project_file.specs.declared.fault.ProjectFault.{ProjectFault}
use Rattle.project_file.specs.declared.fault.ProjectFault.TheVariants.{Twice}
use Rattle.project_file.specs.Fields.{◌>>=◌, check, walk, tables_in, table_in, known, number_at}

-- a memory: for each address the word that was given, if one was
abbrev pub Memory : Type 0
Memory = List (Option ℕ)

abbrev pub word_keys : List (List ℕ)
word_keys = codes "address" ∷ codes "value" ∷ []

-- the memory after one more item
abbrev pub with_word_of : Memory → Members → Result Memory ProjectFault
with_word_of memory ms = do
  a ← number_at (codes "address") 0 (address_count - 1) ms
  _ ← check (is_none (slice_index_or memory a None)) Twice
  value ← number_at (codes "value") 0 4294967295 ms
  Ok (slice_set memory a (Some value))

abbrev pub with_word_item : Memory → Data → Result Memory ProjectFault
with_word_item memory d = do
  ms ← table_in d
  _ ← known word_keys ms
  with_word_of memory ms

-- the memory's words that aren't 0, from this address on
abbrev pub words_from : ℕ → Memory → List FirstWord
words_from a [] = []
words_from a (word ∷ words) = listed a (unwrap_or word 0) ++ words_from (a + 1) words

-- nothing was given for so many addresses
unfoldable pub no_words : ℕ → Memory
no_words n = replicate n None

abbrev pub words_in : Data → Result (List FirstWord) ProjectFault
words_in d = do
  ds ← tables_in d
  memory ← walk with_word_item (no_words address_count) ds
  Ok (words_from 0 memory)
