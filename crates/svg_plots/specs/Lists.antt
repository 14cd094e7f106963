-- Lists, element by element with their places.
use Rattle.std.specs.Prelude.{ℕ, ◌+◌, min, List, [], ◌∷◌, ◌++◌}

-- what each element makes with its place, from a place on
abbrev pub each_from : {A B : Type 0} → (ℕ → A → List B) → ℕ → List A → List B
each_from f i [] = []
each_from f i (x ∷ xs) = f i x ++ each_from f (i + 1) xs

abbrev pub each : {A B : Type 0} → (ℕ → A → List B) → List A → List B
each f xs = each_from f 0 xs

-- so many, but at most 999: more aren't given a place of their own
abbrev pub few_of : ℕ → ℕ
few_of n = min n 999
