-- Offers, one reference after another.
use Rattle.std.proofs.Common.{◌≡◌, ℕ, ◌+◌, ◌<◌, List, [], ◌∷◌, ◌++◌, All, length, drop, get_or, sym, ap, ◌∙◌, append_assoc, append-nil}
use Rattle.std.proofs.lemmas.List.{drop_more}
use Rattle.rand_pcg.specs.Lcg.{Lcg}
use Rattle.rand_pcg.specs.Pcg.{pcg32}
use Rattle.omega_net.specs.declared.script.ScriptEntry.{ScriptEntry}
use Rattle.experiments.specs.Offers.{next_offered, offered}

-- one reference more
pub offered_next : (rate : ℕ) (es left more : List ScriptEntry) (reference : ScriptEntry) (g h : Lcg) (a : ℕ) → left ≡ reference ∷ more → (a, h) ≡ pcg32 g
    → (es ++ offered rate a reference ∷ []) ++ next_offered rate h more ≡ es ++ next_offered rate g left
unfolding next_offered
offered_next rate es left more reference g h a at drawn =
    rw (at, ap (λ p. p.0) drawn, ap (λ p. p.1) drawn) (append_assoc es _ _)

pub none_offered : (rate : ℕ) (es left : List ScriptEntry) (g : Lcg) → left ≡ [] → es ++ next_offered rate g left ≡ es
unfolding next_offered
none_offered rate es left g none = rw none (append-nil es)
