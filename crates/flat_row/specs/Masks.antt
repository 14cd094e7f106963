-- Words of 64 bits as sets of labels.
use Rattle.std.specs.Prelude.{◌≡◌, ℕ, ◌<◌, ◌==◌, Bool, List}
use Rattle.std.specs.List.{list_all}
use Rattle.omega_net.specs.Wires.{bit}

-- whether a label is in a set
abbrev pub has : ℕ → ℕ → Bool
has set x = bit x set == 1

-- the set of the labels below 64 that meet a test
abbrev pub IsSetOf : (ℕ → Bool) → ℕ → Type 0
IsSetOf test set = (x : ℕ) → x < 64 → has set x ≡ test x

-- whether each of these sets is empty
abbrev pub are_empty : List ℕ → Bool
are_empty sets = list_all (λ set. set == 0) sets
