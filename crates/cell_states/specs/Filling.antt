-- Which components are marked.
use Rattle.std.specs.Prelude.{ℕ, Bool, false, List, slice_index_or}

-- whether a component is marked
abbrev pub is_awake : List Bool → ℕ → Bool
is_awake marks c = slice_index_or marks c false
