-- Draws, one after another.
use Rattle.std.proofs.Common.{◌≡◌, ℕ, zero, suc, ◌+◌, ◌%◌, List, [], ◌∷◌, ◌++◌, true, false, ap, subst, ◌∙◌, refl, arith, append_assoc, append-nil}
use Rattle.std.specs.Prelude.{nat_lt, if◌then◌else◌}
use Rattle.rand_pcg.specs.Lcg.{Lcg}
use Rattle.rand_pcg.specs.Pcg.{pcg32}
use Rattle.omega_net.specs.declared.script.ScriptEntry.{ScriptEntry}
use Rattle.drawn_scripts.specs.declared.mix.Mix.{Mix}
use Rattle.project_book.specs.Limits.{max_times}
use Rattle.drawn_scripts.specs.Draws.{gap, idle, later, longer, next_offered, next_reference, next_references}

-- one reference more
pub references_next : (m : Mix) (n : ℕ) (es : List ScriptEntry) (g h : Lcg) (r : ScriptEntry) → r ≡ next_reference m g → h ≡ later g
    → (es ++ r ∷ []) ++ next_references m n h ≡ es ++ next_references m (suc n) g
unfolding next_references
references_next m n es g h r drawn after = rw (drawn, after) (append_assoc es _ _)

pub no_references : (m : Mix) (es : List ScriptEntry) (g : Lcg) → es ++ next_references m zero g ≡ es
unfolding next_references
no_references m es g = append-nil es

-- one reference more behind an idle
pub offered_next : (m : Mix) (rate n : ℕ) (es : List ScriptEntry) (g h o p : Lcg) (turns : ℕ) (r : ScriptEntry) → r ≡ next_reference m g → h ≡ later g
    → (turns, p) ≡ gap rate max_times o → ((es ++ idle turns) ++ r ∷ []) ++ next_offered m rate n h p ≡ es ++ next_offered m rate (suc n) g o
unfolding next_offered
offered_next m rate n es g h o p turns r drawn after passed =
    rw (ap (λ x. x.0) passed, ap (λ x. x.1) passed, drawn, after) (append_assoc (es ++ idle (gap rate max_times o).0) _ _ ∙ append_assoc es _ _)

pub no_offers : (m : Mix) (rate : ℕ) (es : List ScriptEntry) (g o : Lcg) → es ++ next_offered m rate zero g o ≡ es
unfolding next_offered
no_offers m rate es g o = append-nil es

-- so many cycles, and those of a gap
abbrev pub behind : ℕ → ℕ × Lcg → ℕ × Lcg
behind n x = (n + x.0, x.1)

-- the next cycle is one in which a reference is offered, or none is, or there is no next one
pub gap_ends : (rate n : ℕ) (g h : Lcg) (a : ℕ) → (a, h) ≡ pcg32 g → nat_lt (a % 100) rate ≡ true → gap rate (suc n) g ≡ (0, h)
unfolding gap
gap_ends rate n g h a next offered =
    let at : nat_lt ((pcg32 g).0 % 100) rate ≡ true = subst (λ x. nat_lt (x % 100) rate ≡ true) (ap (λ p. p.0) next) offered in
    rw (ap (λ p. p.1) next) (ap (λ b. if b then (0, (pcg32 g).1) else longer (gap rate n (pcg32 g).1)) at)

pub gap_goes : (rate n : ℕ) (g h : Lcg) (a : ℕ) → (a, h) ≡ pcg32 g → nat_lt (a % 100) rate ≡ false → gap rate (suc n) g ≡ longer (gap rate n h)
unfolding gap
gap_goes rate n g h a next none =
    let at : nat_lt ((pcg32 g).0 % 100) rate ≡ false = subst (λ x. nat_lt (x % 100) rate ≡ false) (ap (λ p. p.0) next) none in
    rw (ap (λ p. p.1) next) (ap (λ b. if b then (0, (pcg32 g).1) else longer (gap rate n (pcg32 g).1)) at)

pub gap_over : (rate : ℕ) (g : Lcg) → gap rate zero g ≡ (0, g)
unfolding gap
gap_over rate g = refl

-- one cycle more, before a gap or in it
pub one_behind : (n : ℕ) (x : ℕ × Lcg) → behind n (longer x) ≡ behind (n + 1) x
one_behind n x = let more : n + suc x.0 ≡ n + 1 + x.0 = omega arith in ap (λ m. (m, x.1)) more
