-- Rows as far as they were collected.
use Rattle.std.proofs.Common.{◌≡◌, ℕ, ◌+◌, ◌∙◌, sym, Some, List, [], ◌∷◌, ◌++◌, map, take}
use Rattle.std.specs.Prelude.{slice_get}
use Rattle.std.proofs.lemmas.List.{take_more, map_push}
use Rattle.std.proofs.lemmas.Option.{slice_get_within, get_or_from_slice_get}

-- one more
pub one_more : {A B : Type 0} (f : A → B) (xs : List A) (x : A) (whole : List B) (n : ℕ) → map f xs ≡ take n whole → slice_get whole n ≡ Some (f x) → map f (xs ++ x ∷ []) ≡ take (n + 1) whole
one_more f xs x whole n before here =
    map_push f xs x
    ∙ (λ i. before i ++ sym (get_or_from_slice_get whole n (f x) (f x) here) i ∷ [])
    ∙ sym (take_more whole n (f x) (slice_get_within whole n (f x) here))
