-- Sets of components by their numbers.
use Rattle.std.specs.Prelude.{ℕ, ◌+◌, ◌-◌, ◌/◌, ◌%◌, ◌&&◌, Bool, List, nat_le, nat_lt, slice_index_or}
use Rattle.omega_net.specs.Numbers.{half}
use Rattle.flat_row.specs.Labels.{switch_label}
use Rattle.flat_row.specs.Masks.{has}

-- whether a number is one of n from a first one on, and meets a test by its place among them
abbrev pub is_among : ℕ → ℕ → (ℕ → Bool) → ℕ → Bool
is_among first n test c = nat_le first c && (nat_lt c (first + n) && test (c - first))

-- whether a set of labels has a switch of a stage
abbrev pub in_stage : ℕ → ℕ → ℕ → ℕ → Bool
in_stage k stage set j = has set (switch_label k stage j)

-- whether the set of its stage has a switch of a network
abbrev pub in_stages : ℕ → List ℕ → ℕ → Bool
in_stages k sets d = in_stage k (d / half k) (slice_index_or sets (d / half k) 0) (d % half k)
