-- Marks of components by cycle, 64 components in a line of words.
use Rattle.std.specs.Prelude.{◌≡◌, ℕ, ◌*◌, ◌/◌, ◌%◌, ◌≤◌, Bool, true, length, nat_eq, List, [], slice_index_or}
use Rattle.std.specs.Int.{bit_at}

-- whether a word has a bit set
abbrev pub is_one : ℕ → ℕ → Bool
is_one word k = nat_eq (bit_at word k) 1

-- whether a line has the bit k of cycle t set
abbrev pub is_set : List ℕ → ℕ → ℕ → Bool
is_set line t k = is_one (slice_index_or line t 0) k

-- whether component c is marked at cycle t
abbrev pub is_marked : List (List ℕ) → ℕ → ℕ → Bool
is_marked lines t c = is_set (slice_index_or lines (c / 64) []) t (c % 64)

-- whether a set of components has component c; its words have the bits of 64 each
abbrev pub is_in : List ℕ → ℕ → Bool
is_in set c = is_one (slice_index_or set (c / 64) 0) (c % 64)

-- for 64 cycles each a word has at least the marks of each of them
pub record IsCovered (line blocks : List ℕ) : Type 0 where
  pub room : length line ≤ 64 * length blocks
  pub covers : (t k : ℕ) → is_set line t k ≡ true → is_set blocks (t / 64) k ≡ true
