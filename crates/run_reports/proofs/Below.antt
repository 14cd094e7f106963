-- What is listed of the numbers below one more.
use Rattle.std.proofs.Common.{◌≡◌, ℕ, ◌+◌, List, [], ◌∷◌, ◌++◌, ap, ◌∙◌, add-one}
use Rattle.std.specs.List.{flat_map}
use Rattle.std.proofs.lemmas.List.{append-nil}
use Rattle.std.proofs.lemmas.Grind.{flat_map-append}
use Rattle.omega_net.specs.Wires.{below}

pub flat-next : {X : Type 0} (f : ℕ → List X) (n : ℕ) → flat_map f (below (n + 1)) ≡ flat_map f (below n) ++ f n
flat-next f n = rw add-one (flat_map-append f (below n) (n ∷ []) ∙ ap (λ ys. flat_map f (below n) ++ ys) (append-nil (f n)))
