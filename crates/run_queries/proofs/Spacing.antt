-- What numbers write, one after another.
use Rattle.std.proofs.Common.{◌≡◌, ℕ, ◌+◌, ◌<◌, List, [], ◌∷◌, ◌++◌, length, take, ap, sym, ◌∙◌, append_assoc, append-nil, codes}
use Rattle.std.specs.Prelude.{decimal, slice_index}
use Rattle.std.proofs.lemmas.List.{take_more}
use Rattle.run_queries.specs.Texts.{later_text}

-- one number more
later_push : (xs : List ℕ) (x : ℕ) → later_text (xs ++ x ∷ []) ≡ later_text xs ++ (codes " " ++ decimal x)
later_push [] x = append-nil (codes " " ++ decimal x)
later_push (y ∷ xs) x =
    ap (λ t. codes " " ++ decimal y ++ t) (later_push xs x)
    ∙ sym (append_assoc (codes " " ++ decimal y) (later_text xs) (codes " " ++ decimal x))

pub later_take : (xs : List ℕ) (i : ℕ) → i < length xs → later_text (take (i + 1) xs) ≡ later_text (take i xs) ++ (codes " " ++ decimal (slice_index xs i))
later_take xs i within = ap later_text (take_more xs i 0 within) ∙ later_push (take i xs) (slice_index xs i)
