-- What is printed of an answer is its text.
use Rattle.std.proofs.Common.{◌≡◌, ℕ, List, sym, ap}
use Rattle.std.specs.Prelude.{Option, Some, None, IfSome, IfOk, Result, Ok, Err}
use Rattle.run_queries.specs.declared.body.Body.{Body}
use Rattle.run_queries.specs.Texts.{body_text}
use Rattle.run_queries.proofs.Printing.{Shows, body_shows}

-- what is printed is that text
printed-text : (b : Body) (bytes : List ℕ) → IfSome (body_text b) (λ text. bytes ≡ text) → body_text b ≡ Some bytes
printed-text b bytes h = at (body_text b) (body_shows b) h
  where
    at : (o : Option (List ℕ)) → Shows o → IfSome o (λ text. bytes ≡ text) → o ≡ Some bytes
    at (Some text) p h = ap Some (sym h)
    at None p h = let e = p.1 in cc

pub printed-ok : {S E : Type 0} (bytes : S → List ℕ) (b : Body) (r : Result S E) → IfOk r (λ s. IfSome (body_text b) (λ text. bytes s ≡ text)) → IfOk r (λ s. body_text b ≡ Some (bytes s))
printed-ok bytes b (Ok s) h = printed-text b (bytes s) h
printed-ok bytes b (Err e) h = tt
