-- One character more of an escaped text.
use Rattle.std.proofs.Common.{◌≡◌, ℕ, List, [], ◌∷◌, ◌++◌, Some, None, ap, ◌∙◌, append-nil}
use Rattle.std.specs.Prelude.{encode_utf8, unwrap_or}
use Rattle.std.specs.List.{flat_map}
use Rattle.std.proofs.lemmas.Grind.{flat_map-append}
use Rattle.svg_plots.specs.Entities.{entity_of}
use Rattle.svg_plots.specs.Texts.{character_text}

character_next : (cs : List ℕ) (c : ℕ) → flat_map character_text (cs ++ c ∷ []) ≡ flat_map character_text cs ++ character_text c
character_next cs c = flat_map-append character_text cs (c ∷ []) ∙ ap (λ text. flat_map character_text cs ++ text) (append-nil (character_text c))

pub entity_next : (cs : List ℕ) (c : ℕ) (text : List ℕ) → entity_of c ≡ Some text → flat_map character_text (cs ++ c ∷ []) ≡ flat_map character_text cs ++ text
entity_next cs c text e = character_next cs c ∙ ap (λ o. flat_map character_text cs ++ unwrap_or o (encode_utf8 c)) e

pub plain_next : (cs : List ℕ) (c : ℕ) → entity_of c ≡ None → flat_map character_text (cs ++ c ∷ []) ≡ flat_map character_text cs ++ encode_utf8 c
plain_next cs c e = character_next cs c ∙ ap (λ o. flat_map character_text cs ++ unwrap_or o (encode_utf8 c)) e
