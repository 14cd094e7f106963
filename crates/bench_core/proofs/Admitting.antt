-- The verdict on an edit, by its tests in turn.
use Rattle.std.proofs.Common.{◌≡◌, ℕ, ◌-◌, ◌^◌, ◌<◌, ◌≤◌, ◌∙◌, sym, ap, subst, refl, arith, inl, inr, Bool, true, false, Result, Ok, Err, List, [], ◌∷◌}
use Rattle.std.specs.Prelude.{nat_le, ◌==◌, IsOkUnless, IfErr, Some, find}
use Rattle.std.proofs.lemmas.Bool.{cases_lt}
use Rattle.std.proofs.lemmas.Bool.Decides.{nat_tests}
use Rattle.project_book.specs.Project.{Project}
use Rattle.project_book.specs.Edits.{accepts, applies, judged, verdict}
use Rattle.project_book.specs.Limits.{max_edits}
use Rattle.project_book.specs.declared.edit.Edit.{Edit}
use Rattle.project_book.specs.declared.fault.EditFault.{EditFault}
use Rattle.project_book.specs.declared.fault.EditFault.TheVariants.{JournalFull, ClockSpent, Memory}
use Rattle.bench_core.specs.Shown.{Shown, project_of, version_of}
use Rattle.bench_core.specs.Edits.{admits, unless_spent, Refuses}
use Rattle.bench_core.specs.Told.{RefusesAt}

accepts_full : (P : Project) (v : ℕ) (e : Edit) → max_edits ≤ v → accepts P v e ≡ Err JournalFull
accepts_full P v e h = let t : nat_le max_edits v ≡ true = grind (arith, nat_tests) in rw t refl

accepts_counted : (P : Project) (v : ℕ) (e : Edit) → v < max_edits → accepts P v e ≡ accepts P 0 e
accepts_counted P v e h = let t : nat_le max_edits v ≡ false = grind (arith, nat_tests) in rw t refl

-- while the clock is at its last value, what would be accepted is refused; before, the verdict is the project's
spent : (clock : ℕ) → clock ≡ 2 ^ 64 - 1 → unless_spent clock (Ok tt) ≡ Err ClockSpent
spent clock last = grind (arith, nat_tests)

unspent : (clock : ℕ) (r : Result (Unit {0}) EditFault) → (clock ≡ 2 ^ 64 - 1 → ⊥) → unless_spent clock r ≡ r
unspent clock (Err fault) earlier = refl
unspent clock (Ok u) earlier = let t : (clock == 2 ^ 64 - 1) ≡ false = grind (arith, nat_tests) in rw t refl

pub admits_full : (b : Shown) (e : Edit) → max_edits ≤ version_of b → admits b e ≡ Err JournalFull
admits_full b e h = ap (unless_spent b.table.clock) (accepts_full (project_of b) (version_of b) e h)

-- with room in the journal
module _ (b : Shown) (e : Edit) (r : Result (Unit {0}) EditFault) (room : version_of b < max_edits) (checked : r ≡ accepts (project_of b) 0 e) where
  counted : admits b e ≡ unless_spent b.table.clock r
  counted = rw (checked) (ap (unless_spent b.table.clock) (accepts_counted (project_of b) (version_of b) e room))

  pub admits_fault : (fault : EditFault) → r ≡ Err fault → admits b e ≡ Err fault
  admits_fault fault is = counted ∙ ap (unless_spent b.table.clock) is

  pub admits_last : r ≡ Ok tt → b.table.clock ≡ 2 ^ 64 - 1 → admits b e ≡ Err ClockSpent
  admits_last is last = counted ∙ ap (unless_spent b.table.clock) is ∙ spent b.table.clock last

pub admits_earlier : (b : Shown) (e : Edit) → version_of b < max_edits → (b.table.clock ≡ 2 ^ 64 - 1 → ⊥) → admits b e ≡ accepts (project_of b) 0 e
admits_earlier b e room earlier = counted b e (accepts (project_of b) 0 e) room refl ∙ unspent b.table.clock (accepts (project_of b) 0 e) earlier

-- what an admitted edit is known by
known_by : (clock : ℕ) (r : Result (Unit {0}) EditFault) → unless_spent clock r ≡ Ok tt → (r ≡ Ok tt) × (clock ≡ 2 ^ 64 - 1 → ⊥)
known_by clock (Err fault) h = absurd cc
known_by clock (Ok u) h = (refl, λ last. let refused = spent clock last in absurd cc)

pub admitted : (b : Shown) (e : Edit) → admits b e ≡ Ok tt → accepts (project_of b) (version_of b) e ≡ Ok tt
admitted b e h = (known_by b.table.clock (accepts (project_of b) (version_of b) e) h).0

pub admitted_clock : (b : Shown) (e : Edit) → admits b e ≡ Ok tt → b.table.clock ≡ 2 ^ 64 - 1 → ⊥
admitted_clock b e h = (known_by b.table.clock (accepts (project_of b) (version_of b) e) h).1

-- an accepted edit finds room in the journal
pub admitted_room : (b : Shown) (e : Edit) → admits b e ≡ Ok tt → version_of b < max_edits
admitted_room b e h = elim (cases_lt (version_of b) max_edits) [ inl room ↦ room | inr full ↦ (let refused = admits_full b e full in absurd cc) ]

-- a fault that never applies is no verdict
never_first : (p : EditFault → Bool) (f : EditFault) (fs : List EditFault) → p f ≡ false → verdict (find p fs) ≡ Err f → ⊥
never_first p f [] never is = absurd cc
never_first p f (g ∷ gs) never is = by (p g) refl (never_first p f gs never)
  where
    by : (test : Bool) → p g ≡ test → (verdict (find p gs) ≡ Err f → ⊥) → ⊥
    by true applies later =
        let first : verdict (Some g) ≡ Err f = rw applies at is in
        let same : g ≡ f = cc in
        let both : p f ≡ true = subst (λ x. p x ≡ true) same applies in
        absurd cc
    by false other later = later (rw other at is)

never_spent : (P : Project) (v : ℕ) (e : Edit) → accepts P v e ≡ Err ClockSpent → ⊥
never_spent P v e h = never_first (applies P v e) ClockSpent judged refl h

never_wants : (P : Project) (v : ℕ) (e : Edit) → accepts P v e ≡ Err Memory → ⊥
never_wants P v e h = never_first (applies P v e) Memory judged refl h

-- what a refusal of a bench says of its clock and of its project
last_by : (clock : ℕ) (r : Result (Unit {0}) EditFault) → (r ≡ Err ClockSpent → ⊥) → unless_spent clock r ≡ Err ClockSpent → (r ≡ Ok tt) × (clock ≡ 2 ^ 64 - 1)
last_by clock (Err g) never h = absurd (never h)
last_by clock (Ok u) never h = (refl, grind (arith, nat_tests))

unless_never : (clock : ℕ) (r : Result (Unit {0}) EditFault) → (r ≡ Err Memory → ⊥) → unless_spent clock r ≡ Err Memory → ⊥
unless_never clock (Err g) never h = never h
unless_never clock (Ok u) never h = by (clock == 2 ^ 64 - 1) refl
  where
    by : (test : Bool) → (clock == 2 ^ 64 - 1) ≡ test → ⊥
    by true last = let k : Err ClockSpent ≡ Err Memory = rw last at h in absurd cc
    by false earlier = let k : Ok tt ≡ Err Memory = rw earlier at h in absurd cc

unless_fault : (clock : ℕ) (r : Result (Unit {0}) EditFault) (f : EditFault) → (f ≡ ClockSpent → ⊥) → unless_spent clock r ≡ Err f → r ≡ Err f
unless_fault clock (Err g) f other h = h
unless_fault clock (Ok u) f other h = by (clock == 2 ^ 64 - 1) refl
  where
    by : (test : Bool) → (clock == 2 ^ 64 - 1) ≡ test → Ok u ≡ Err f
    by true last = let k : Err ClockSpent ≡ Err f = rw last at h in absurd (other cc)
    by false earlier = let k : Ok tt ≡ Err f = rw earlier at h in absurd cc

module _ (b : Shown) (e : Edit) where
  abbrev says_of : Result (Unit {0}) EditFault
  says_of = accepts (project_of b) (version_of b) e

  spent_is : admits b e ≡ Err ClockSpent → (says_of ≡ Ok tt) × (b.table.clock ≡ 2 ^ 64 - 1)
  spent_is h = last_by b.table.clock says_of (never_spent (project_of b) (version_of b) e) h

  pub refused_spent : Refuses b e ClockSpent → b.table.clock ≡ 2 ^ 64 - 1
  refused_spent h = (spent_is h).1

  pub refused_wants : Refuses b e Memory → b.table.clock ≡ 2 ^ 64 - 1 → ⊥
  refused_wants h = admitted_clock b e h

  -- the same refusal, by the project alone
  pub refuses_at : (f : EditFault) → Refuses b e f → RefusesAt (project_of b) (version_of b) e f
  refuses_at ClockSpent h = (spent_is h).0
  refuses_at Memory h = admitted b e h
  refuses_at _ h = unless_fault b.table.clock says_of _ (λ k. cc) h

-- what an edit of a bench answers
refused_by : (b : Shown) (e : Edit) (f : EditFault) → admits b e ≡ Err f → Refuses b e f
refused_by b e Memory h = absurd (unless_never b.table.clock (accepts (project_of b) (version_of b) e) (never_wants (project_of b) (version_of b) e) h)
refused_by b e _ h = h

same_fault : (f g : EditFault) (r : Result ℕ EditFault) → r ≡ Err f → r ≡ Err g → g ≡ f
same_fault f g r a b = let c : Err f ≡ Err g = sym a ∙ b in cc

wanting_by : (b : Shown) (e : Edit) (f : EditFault) → admits b e ≡ Ok tt → IsOkUnless {T = ℕ} (Err f) Memory → Refuses b e f
wanting_by b e f is h = let c : f ≡ Memory = cc in subst (Refuses b e) (sym c) is

pub made_refuses : (b : Shown) (e : Edit) (r : Result ℕ EditFault) → ((g : EditFault) → admits b e ≡ Err g → r ≡ Err g) → (admits b e ≡ Ok tt → IsOkUnless r Memory)
    → IfErr r (λ f. Refuses b e f)
made_refuses b e (Ok v) refused accepted = tt
made_refuses b e (Err f) refused accepted = by (admits b e) refl
  where
    by : (says : Result (Unit {0}) EditFault) → admits b e ≡ says → Refuses b e f
    by (Err g) h = subst (Refuses b e) (same_fault f g (Err f) refl (refused g h)) (refused_by b e g h)
    by (Ok u) h = wanting_by b e f h (accepted h)

-- and the same by the project alone
pub made_refused : (b : Shown) (e : Edit) (r : Result ℕ EditFault) → ((g : EditFault) → admits b e ≡ Err g → r ≡ Err g) → (admits b e ≡ Ok tt → IsOkUnless r Memory)
    → IfErr r (λ f. RefusesAt (project_of b) (version_of b) e f)
made_refused b e (Ok v) refused accepted = tt
made_refused b e (Err f) refused accepted = refuses_at b e f (made_refuses b e (Err f) refused accepted)
