-- Lists, element by element with their places.
use Rattle.std.proofs.Common.{◌≡◌, ℕ, ◌+◌, List, [], ◌∷◌, ◌++◌, map, refl, ap}
use Rattle.svg_plots.specs.Lists.{each_from}

-- of what a function makes of each element
pub each_mapped : {A B C : Type 0} (f : ℕ → B → List C) (g : A → B) (n : ℕ) (xs : List A) → each_from f n (map g xs) ≡ each_from (λ i x. f i (g x)) n xs
each_mapped f g n [] = refl
each_mapped f g n (x ∷ xs) = ap (λ ys. f n (g x) ++ ys) (each_mapped f g (n + 1) xs)
