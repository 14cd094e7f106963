-- The differences of two runs, queue by queue, where the lengths of each run stand in a list.
use Rattle.std.specs.Prelude.{ℕ, List, [], ◌∷◌}
use Rattle.lab_tasks.specs.ComparedMaps.{differences}

unfoldable pub all_differences : ℕ → List (List ℕ) → List (List ℕ) → List (List ℕ)
all_differences d [] bs = []
all_differences d (a ∷ us) [] = []
all_differences d (a ∷ us) (b ∷ bs) = differences d a b ∷ all_differences d us bs
