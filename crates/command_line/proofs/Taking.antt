-- The first bytes of a reader.
use Rattle.std.proofs.Common.{◌≡◌, ◌∙◌, ℕ, List, [], ◌++◌, take, refl, subst}
use Rattle.std.specs.Prelude.{Option, Some, None, IfSome, option_map}

taken_of : (o : Option (List ℕ)) (n limit : ℕ) (old new : List ℕ) → limit ≡ n → old ≡ [] → IfSome (option_map (take limit) o) (λ xs. new ≡ old ++ xs) → IfSome o (λ all. new ≡ take n all)
taken_of None n limit old new same none h = tt
taken_of (Some all) n limit old new same none h = h ∙ rw (none, same) refl

-- what is read up to a limit, onto nothing
pub taken : (inner o : Option (List ℕ)) (n limit : ℕ) (old new : List ℕ) → inner ≡ o → limit ≡ n → old ≡ [] → IfSome (option_map (take limit) inner) (λ xs. new ≡ old ++ xs)
    → IfSome o (λ all. new ≡ take n all)
taken inner o n limit old new is same none h =
    taken_of o n limit old new same none (subst (λ (p : Option (List ℕ)). IfSome (option_map (take limit) p) (λ xs. new ≡ old ++ xs)) is h)
