-- Words of a line as texts of several words, one more.
use Rattle.std.proofs.Common.{◌≡◌, List, ◌∷◌, ◌++◌, ℕ, sym, ap, ◌∙◌}
use Rattle.lab_tasks.specs.Phrases.{gathered}

pub gather_more : (old new : List (List ℕ)) (text next word told : List ℕ) (words behind all : List (List ℕ))
    → new ++ gathered next behind ≡ old ++ gathered text (told ∷ behind) → told ≡ word → words ≡ word ∷ behind
    → old ++ gathered text words ≡ all → new ++ gathered next behind ≡ all
gather_more old new text next word told words behind all gathers is split before =
    gathers ∙ ap (λ w. old ++ gathered text (w ∷ behind)) is ∙ ap (λ ws. old ++ gathered text ws) (sym split) ∙ before
