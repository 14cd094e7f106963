-- What several threads told.
use Rattle.std.proofs.Common.{◌≡◌, List, [], ◌∷◌, map, subst, sym, Vec, Global}
use Rattle.std.specs.Prelude.{Result, Ok, Err, IfOk, MatchResult}
use Rattle.std.specs.List.{AllZip}

module _ {S R : Type 0} (E : Type 0) (Told : S → R → Type 0) where
  all_ok : (steps : List S) (rows : List R) → AllZip (λ (step : S) (r : Result R E). IfOk r (Told step)) steps (map {B = Result R E} Ok rows) → AllZip Told steps rows
  all_ok [] [] h = tt
  all_ok [] (row ∷ rows) h = absurd h
  all_ok (step ∷ steps) [] h = absurd h
  all_ok (step ∷ steps) (row ∷ rows) h = (h.0, all_ok steps rows h.1)

  -- where each told something, all of it
  pub all-told : (Bad : E → Type 0) (steps : List S) (told : List (Result R E)) (v : Result (Vec R Global) E)
      → MatchResult v (λ c. (ys : List R) × (told ≡ map {B = Result R E} Ok ys) × (c.items ≡ ys)) Bad
      → AllZip (λ (step : S) (r : Result R E). IfOk r (Told step)) steps told → IfOk v (λ c. AllZip Told steps c.items)
  all-told Bad steps told (Ok c) given each =
      subst (λ (rows : List R). AllZip Told steps rows) (sym given.2)
      (all_ok steps given.0 (subst (λ (rs : List (Result R E)). AllZip (λ (step : S) (r : Result R E). IfOk r (Told step)) steps rs) given.1 each))
  all-told Bad steps told (Err e) given each = tt
