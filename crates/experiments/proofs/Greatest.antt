-- The first ones of a list, where there may be fewer.
use Rattle.std.proofs.Common.{◌≡◌, ℕ, zero, suc, List, [], ◌∷◌, length, take, refl, sym, ap, ◌∙◌, arith}
use Rattle.std.specs.Prelude.{min}
use Rattle.std.proofs.Math.Seq.{take-nil}

pub take_few : {T : Type 0} (xs : List T) (n : ℕ) → take (min (length xs) n) xs ≡ take n xs
take_few [] n = take-nil (min 0 n) ∙ sym (take-nil n)
take_few (x ∷ xs) zero = let e : min (suc (length xs)) zero ≡ zero = grind arith in rw e refl
take_few (x ∷ xs) (suc n) =
    let e : min (suc (length xs)) (suc n) ≡ suc (min (length xs) n) = grind arith in
    rw e (ap (λ rest. x ∷ rest) (take_few xs n))
