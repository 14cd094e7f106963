-- Texts that grow.
use Rattle.std.proofs.Common.{◌≡◌, ℕ, ◌+◌, List, [], ◌∷◌, ◌++◌, ap, ap₂, sym, ◌∙◌, add-one}
use Rattle.std.specs.List.{flat_map}
use Rattle.std.proofs.lemmas.List.{append-nil, append_assoc}
use Rattle.std.proofs.lemmas.Grind.{flat_map-append}
use Rattle.omega_net.specs.Wires.{below}

-- the text of one number more
one_more : (f : ℕ → List ℕ) (n : ℕ) → flat_map f (below (n + 1)) ≡ flat_map f (below n) ++ f n
one_more f n = rw add-one (flat_map-append f (below n) (n ∷ []) ∙ ap (λ ys. flat_map f (below n) ++ ys) (append-nil (f n)))

pub text_more : (f : ℕ → List ℕ) (n : ℕ) (old now new more : List ℕ) → now ≡ old ++ flat_map f (below n) → new ≡ now ++ more → more ≡ f n
    → new ≡ old ++ flat_map f (below (n + 1))
text_more f n old now new more is added same =
    added ∙ ap₂ (λ (s t : List ℕ). s ++ t) is same ∙ append_assoc old (flat_map f (below n)) (f n) ∙ ap (λ (t : List ℕ). old ++ t) (sym (one_more f n))

-- a text of three parts
pub three_parts : (head data_part tail made added all : List ℕ) → made ≡ head → added ≡ made ++ data_part → all ≡ added ++ tail → all ≡ head ++ data_part ++ tail
three_parts head data_part tail made added all first second third =
    third ∙ ap (λ (t : List ℕ). t ++ tail) (second ∙ ap (λ (t : List ℕ). t ++ data_part) first)
