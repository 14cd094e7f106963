-- The earliest and the latest of some cycles, one by one.
use Rattle.std.proofs.Common.{◌≡◌, ℕ, ◌+◌, ◌<◌, List, [], ◌∷◌, ◌++◌, length, get_or, take, refl, sym, ap, ◌∙◌, Option, None, Some, arith}
use Rattle.std.proofs.lemmas.List.{take_more}
use Rattle.run_reports.specs.Completions.{earliest, latest, or_less, or_more}

less_turned : (x y : ℕ) (o : Option ℕ) → or_less y (Some (or_less x o)) ≡ or_less x (Some (or_less y o))
less_turned x y None = omega arith
less_turned x y (Some z) = omega arith

more_turned : (x y : ℕ) (o : Option ℕ) → or_more y (Some (or_more x o)) ≡ or_more x (Some (or_more y o))
more_turned x y None = omega arith
more_turned x y (Some z) = omega arith

earliest_behind : (ts : List ℕ) (t : ℕ) → earliest (ts ++ t ∷ []) ≡ Some (or_less t (earliest ts))
earliest_behind [] t = refl
earliest_behind (u ∷ ts) t = ap (λ (o : Option ℕ). Some (or_less u o)) (earliest_behind ts t) ∙ ap Some (less_turned t u (earliest ts))

latest_behind : (ts : List ℕ) (t : ℕ) → latest (ts ++ t ∷ []) ≡ Some (or_more t (latest ts))
latest_behind [] t = refl
latest_behind (u ∷ ts) t = ap (λ (o : Option ℕ). Some (or_more u o)) (latest_behind ts t) ∙ ap Some (more_turned t u (latest ts))

-- one cycle more
pub earliest_more : (ts : List ℕ) (i d : ℕ) → i < length ts → Some (or_less (get_or ts i d) (earliest (take i ts))) ≡ earliest (take (i + 1) ts)
earliest_more ts i d less = sym (ap earliest (take_more ts i d less) ∙ earliest_behind (take i ts) (get_or ts i d))

pub latest_more : (ts : List ℕ) (i d : ℕ) → i < length ts → Some (or_more (get_or ts i d) (latest (take i ts))) ≡ latest (take (i + 1) ts)
latest_more ts i d less = sym (ap latest (take_more ts i d less) ∙ latest_behind (take i ts) (get_or ts i d))
