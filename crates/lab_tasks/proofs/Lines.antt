-- A table, one row more.
use Rattle.std.proofs.Common.{◌≡◌, ℕ, ◌+◌, ◌<◌, take, get_or, length, List, [], ◌∷◌, ◌++◌, ap, ◌∙◌, sym}
use Rattle.std.specs.List.{flat_map}
use Rattle.std.proofs.lemmas.List.{flat_map_more, take_more}

pub line-more : {X : Type 0} (row : X → List ℕ) (xs : List X) (i : ℕ) (d : X) (begin old new : List ℕ) → i < length xs
    → old ≡ begin ++ flat_map (λ y. row y ++ 10 ∷ []) (take i xs) → new ≡ old ++ (row (get_or xs i d) ++ 10 ∷ [])
    → new ≡ begin ++ flat_map (λ y. row y ++ 10 ∷ []) (take (i + 1) xs)
line-more {X} row xs i d begin old new lt so written =
    let line : X → List ℕ = λ y. row y ++ 10 ∷ [] in
    written ∙ ap (λ done. done ++ line (get_or xs i d)) so ∙ flat_map_more line begin (take i xs) (get_or xs i d)
    ∙ ap (λ ys. begin ++ flat_map line ys) (sym (take_more xs i d lt))
