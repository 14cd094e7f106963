-- Cells that hold no state any more.
use Rattle.std.proofs.Common.{◌≡◌, ℕ, ◌+◌, ◌<◌, ◌≤◌, Bool, true, false, cond, None, refl, subst, ◌∙◌, arith}
use Rattle.std.specs.Prelude.{◌&&◌, nat_lt, nat_le}
use Rattle.std.proofs.lemmas.Bool.Decides.{nat_tests}
use Rattle.omega_net.specs.Numbers.{components}
use Rattle.monitor_sums.specs.declared.counted.Counted.{Counted}
use Rattle.monitor_sums.specs.Sums.{States, cleared}
use Rattle.monitor_sums.specs.Counts.{counted, nothing}
use Rattle.monitor_sums.specs.Kept.{Kept, StandsFor, kept_at}

-- tests with the same answer choose the same
chosen : (a b : Bool) (x y : Counted) → (a ≡ true → b ≡ true) → (b ≡ true → a ≡ true) → cond a x y ≡ cond b x y
chosen true true x y f g = refl
chosen false false x y f g = refl
chosen true false x y f g = let e : false ≡ true = f refl in cc
chosen false true x y f g = let e : false ≡ true = g refl in cc

-- what is kept stands for the map without those states
pub stands_cleared : (old new : Kept) (from to : ℕ) (at : States) → new.k ≡ old.k → new.last ≡ old.last
    → ((u d : ℕ) → u ≤ old.last → d < components old.k → kept_at new.cells u d ≡ cond (nat_le from u && nat_lt u (to + 1)) nothing (kept_at old.cells u d))
    → StandsFor old at → StandsFor new (cleared at from to)
stands_cleared old new from to at same same_last each stands u d b there =
    each u d in_time old_there
    ∙ chosen (nat_le from u && nat_lt u (to + 1)) (nat_le from u && nat_le u to) nothing (kept_at old.cells u d)
    (λ e. by_parts (nat_le from u) (nat_lt u (to + 1)) (nat_le u to) refl refl e)
    (λ e. by_other_parts (nat_le from u) (nat_lt u (to + 1)) (nat_le u to) refl refl e)
    ∙ by_test (nat_le from u && nat_le u to)
  where
    in_time : u ≤ old.last
    in_time = omega (arith, b, same_last)

    old_there : d < components old.k
    old_there = subst (λ k. d < components k) same there

    by_parts : (w a b : Bool) → nat_lt u (to + 1) ≡ a → nat_le u to ≡ b → (w && a) ≡ true → (w && b) ≡ true
    by_parts true true true e f h = refl
    by_parts true true false e f h = absurd (grind (arith, nat_tests))
    by_parts true false b e f h = cc
    by_parts false a b e f h = cc

    by_other_parts : (w a b : Bool) → nat_lt u (to + 1) ≡ a → nat_le u to ≡ b → (w && b) ≡ true → (w && a) ≡ true
    by_other_parts true true b e f h = refl
    by_other_parts true false true e f h = absurd (grind (arith, nat_tests))
    by_other_parts true false false e f h = cc
    by_other_parts false a b e f h = cc

    by_test : (v : Bool) → cond v nothing (kept_at old.cells u d) ≡ counted (cond v None (at u d))
    by_test true = refl
    by_test false = stands u d in_time old_there
