-- What a report writes, level by level.
use Rattle.std.proofs.Common.{◌≡◌, ℕ, ◌+◌, ◌<◌, List, ◌++◌, length, get_or, take, Option, codes, sym, ap, ◌∙◌}
use Rattle.std.specs.List.{flat_map}
use Rattle.std.proofs.lemmas.List.{take_more, flat_map_more}
use Rattle.saturation.specs.Texts.{first_text}

-- a level's part of the text
abbrev pub part : Option ℕ → List ℕ
part o = codes " " ++ first_text o

pub one_more_part : (xs : List (Option ℕ)) (i : ℕ) (d : Option ℕ) → i < length xs
    → (codes "first" ++ flat_map part (take i xs)) ++ part (get_or xs i d) ≡ codes "first" ++ flat_map part (take (i + 1) xs)
one_more_part xs i d there =
    flat_map_more part (codes "first") (take i xs) (get_or xs i d)
    ∙ ap (λ ys. codes "first" ++ flat_map part ys) (sym (take_more xs i d there))
