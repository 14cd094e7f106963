-- Lemmas on names that words may be.
use Rattle.std.proofs.Common.{◌≡◌, true, false, List, ℕ, refl, subst}
use Rattle.std.specs.Prelude.{Option, None, Some, is_some, option_map}
use Rattle.std.specs.Borrow.{Bor}
use Rattle.lab_shell.specs.Hints.{or_else}

pub found : (o : Option (Bor (List ℕ))) (m later : Option (List ℕ)) → option_map (λ n. n.now) o ≡ m → is_some o ≡ true → option_map (λ n. n.now) o ≡ or_else m later
found (Some n) m later e h = subst (λ x. Some n.now ≡ or_else x later) e refl
found None m later e h = absurd cc

pub passed : (o : Option (Bor (List ℕ))) (m later : Option (List ℕ)) → option_map (λ n. n.now) o ≡ m → is_some o ≡ false → or_else m later ≡ later
passed (Some n) m later e h = absurd cc
passed None m later e h = subst (λ x. or_else x later ≡ later) e refl
