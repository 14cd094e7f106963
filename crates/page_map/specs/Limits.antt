-- The limits of a memory and its modules.
use Rattle.std.specs.Prelude.{ℕ}

-- the greatest k: a machine has 2^k modules
abbrev pub max_k : ℕ
max_k = 6

-- how many pages there are, how many words a page has, and how many addresses there are
abbrev pub page_count : ℕ
page_count = 64

abbrev pub page_words : ℕ
page_words = 256

abbrev pub address_count : ℕ
address_count = 16384
