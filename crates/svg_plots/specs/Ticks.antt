-- Which values of a scale have a tick.
use Rattle.std.specs.Prelude.{ℕ, ◌+◌, ◌*◌, ◌^◌, ◌<◌, ◌≤◌, nat_le, List, [], ◌∷◌, ◌++◌, unwrap_or}
use Rattle.std.specs.List.{flat_map, find}

-- 1, 2 and 5 times a power of ten, upwards, as far as 32 bits go
abbrev pub steps : List ℕ
steps = flat_map (λ power. 10 ^ power ∷ 2 * 10 ^ power ∷ 5 * 10 ^ power ∷ []) (0 ∷ 1 ∷ 2 ∷ 3 ∷ 4 ∷ 5 ∷ 6 ∷ 7 ∷ 8 ∷ []) ++ 10 ^ 9 ∷ 2 * 10 ^ 9 ∷ []

-- the least of them of which no more than `most` make up a span, else the whole span
abbrev pub step_of : ℕ → ℕ → ℕ
step_of span most = unwrap_or (find (λ step. nat_le span (step * most)) steps) span

-- a fraction n / d is at least 2 to a power, and less than 2 to the next one
abbrev pub Doubles : ℕ → ℕ → ℕ → Type 0
Doubles n d power = (d * 2 ^ power ≤ n) × (n < d * 2 ^ (power + 1))
