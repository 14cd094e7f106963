-- Answers, one after another.
use Rattle.std.proofs.Common.{◌≡◌, ℕ, ◌+◌, ◌<◌, List, [], ◌∷◌, ◌++◌, length, map, take, get_or, sym, ap, ◌∙◌, add-one}
use Rattle.std.proofs.Math.Seq.{take-suc}
use Rattle.std.proofs.lemmas.List.{map-append}

-- one answer more, by a function of the project as it is, which is that at the start
pub row_next : {A X Z : Type 0} (f : A → X → Z) (xs : List X) (row : List Z) (i : ℕ) (d : X) (z : Z) (p q : A) → i < length xs → q ≡ p
    → row ≡ map (f p) (take i xs) → f q (get_or xs i d) ≡ z → row ++ z ∷ [] ≡ map (f p) (take (i + 1) xs)
row_next f xs row i d z p q lt same before is =
    let here : f p (get_or xs i d) ≡ z = ap (λ a. f a (get_or xs i d)) (sym same) ∙ is in
    rw (add-one, take-suc xs i d lt, map-append (f p) (take i xs) (get_or xs i d ∷ []), here) (ap (λ ys. ys ++ z ∷ []) before)
