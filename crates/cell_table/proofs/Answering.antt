-- What `give` answers to a claim's result, by the history.
use Rattle.std.proofs.Common.{◌≡◌, ℕ, ◌-◌, ◌^◌, ◌<◌, ◌≤◌, ◌∙◌, sym, ap, subst, refl, arith, true, false, ◌⊎◌, inl, inr, Option, None, Some, Result, Ok, Err, IfOk, IfSome, OnOk, List, [], ◌∷◌, ◌++◌, length}
use Rattle.std.proofs.lemmas.Bool.{true≢false, cases_Bool, cases_lt, and_parts}
use Rattle.grid_law.specs.Rules.{Rules, Laws, Agrees, Differ}
use Rattle.cell_table.specs.declared.given.Given.{Given}
use Rattle.cell_table.specs.declared.given.Given.TheVariants.{Gone, NotDue, Overtaken, Foreign, ClockSpent, Memory, Stored}
use Rattle.due_cells.specs.Seen.{Seen, held_at}
use Rattle.cell_table.specs.Cells.{IsThere}
use Rattle.cell_table.specs.Claims.{Claimed, Computed, IsClaim, IsNextRound, is_claimable}
use Rattle.cell_table.specs.Gives.{GivesAs, IsOpen, IsPresent}
use Rattle.cell_table.specs.Touches.{IsAfterTouch}
use Rattle.cell_table.specs.Events.{Event, Claims, Edits, Stores, Start, slots_of, horizon_of}
use Rattle.cell_table.specs.Due.{due}
use Rattle.cell_table.specs.Stands.{IsLegal, Stands, CellStands}
use Rattle.cell_table.specs.Overtaken.{overtaken}
use Rattle.cell_table.specs.Made.{Made}
use Rattle.cell_table.specs.Answers.{AnswersMade, after_give}
use Rattle.cell_table.proofs.Standing.{inputs_stand, stands_stored, stands_touched}
use Rattle.cell_table.proofs.Overtaking.{IsUntouched, WasOvertaken, untouched, was_overtaken}

module _ {State Slots Slot : Type 0} (R : Rules State Slots Slot) (laws : Laws R) (o : Start Slots) (old new : Seen State Slots) (done : Computed State Slots) (h : List (Event State Slots Slot)) (stands : Stands R o old h) where
  -- the table stands for the history with the store, if there was one
  pub stands_given : (given : Given (Computed State Slots)) → GivesAs R old done given new → Stands R o new (after_give given done h)
  stands_given Gone g = subst (λ v. Stands R o v h) (sym g.1) stands
  stands_given NotDue g = subst (λ v. Stands R o v h) (sym g.2) stands
  stands_given Overtaken g = subst (λ v. Stands R o v h) (sym g.3) stands
  stands_given Foreign g = subst (λ v. Stands R o v h) (sym g.2) stands
  stands_given (ClockSpent back) g = subst (λ v. Stands R o v h) (sym g.5) stands
  stands_given (Memory back) g = subst (λ v. Stands R o v h) (sym g.5) stands
  stands_given (Stored changed) g =
      stands_stored R laws o old new h stands done.claim.cell.cycle done.claim.cell.component done.state changed g.0.there g.2

module _ {State Slots Slot : Type 0} (R : Rules State Slots Slot) (laws : Laws R) (o : Start Slots) (old new : Seen State Slots) (claim : Claimed State Slots) (h : List (Event State Slots Slot)) (n : ℕ) (stands : Stands R o old h) (made : Made R o claim h n) where
  since : (Q : List (Event State Slots Slot) → ℕ → Type 0) → Q h n → Q (made.later ++ Claims claim.cell.cycle claim.cell.component ∷ made.earlier) (length made.earlier)
  since Q q = subst (Q (made.later ++ Claims claim.cell.cycle claim.cell.component ∷ made.earlier)) made.place (subst (λ l. Q l n) made.splits q)

  -- the cell and what it reads are as they were
  pub when_kept : overtaken R o h n claim.cell.cycle claim.cell.component ≡ false → IsOpen R old claim × IsPresent R old claim
  when_kept e = (
    record { there = there; due = cell.is_due ∙ u.is_due; version = cell.version u.is_due ∙ u.version ∙ sym made.version },
    record {
      inputs = inputs_stand R laws o old old h stands claim.cell.cycle claim.cell.component there ∙ u.inputs;
      agrees = subst (λ s. Agrees R s old.slots claim.near claim.cell.component) (sym made.slots) (subst (λ s. Agrees R (slots_of o made.earlier) s claim.near claim.cell.component) (sym stands.slots) u.agrees);
    },
  )
    where
      first : IsUntouched R laws o claim.cell.cycle claim.cell.component made.earlier claim.near (Claims claim.cell.cycle claim.cell.component ∷ made.earlier)
      first = record {
        cycle = made.cycle;
        is_due = made.was_due;
        version = refl;
        inputs = made.near;
        agrees = record { shape = laws.shape_itself _; slots = λ slot r. laws.at_itself _ slot };
      }

      u : IsUntouched R laws o claim.cell.cycle claim.cell.component made.earlier claim.near h
      u = subst (IsUntouched R laws o claim.cell.cycle claim.cell.component made.earlier claim.near) (sym made.splits) (untouched R laws o claim.cell.cycle claim.cell.component made.earlier claim.near made.later (subst (IsLegal R o) made.splits stands.legal) first (since (λ l m. overtaken R o l m claim.cell.cycle claim.cell.component ≡ false) e))

      there : IsThere R old claim.cell.cycle claim.cell.component
      there = record {
        cycle = omega (arith, u.cycle, stands.horizon);
        component = omega (arith, made.component, laws.shape_components (slots_of o made.earlier) (slots_of o h) u.agrees.shape, ap R.components stands.slots);
      }

      cell : CellStands R o old h claim.cell.cycle claim.cell.component
      cell = stands.cells claim.cell.cycle claim.cell.component there

  pub when_overtaken : overtaken R o h n claim.cell.cycle claim.cell.component ≡ true → IsOpen R old claim → ⊥
  when_overtaken e is_open = apart w
    where
      cell : CellStands R o old h claim.cell.cycle claim.cell.component
      cell = stands.cells claim.cell.cycle claim.cell.component is_open.there

      w : WasOvertaken R laws o claim.cell.cycle claim.cell.component made.earlier claim.near h
      w = subst (WasOvertaken R laws o claim.cell.cycle claim.cell.component made.earlier claim.near) (sym made.splits) (was_overtaken R laws o claim.cell.cycle claim.cell.component made.earlier claim.near made.later (since (λ l m. overtaken R o l m claim.cell.cycle claim.cell.component ≡ true) e))

      apart : WasOvertaken R laws o claim.cell.cycle claim.cell.component made.earlier claim.near h → ⊥
      apart (inl p) = omega (arith, is_open.there.cycle, stands.horizon)
      apart (inr (inl p)) = true≢false (sym is_open.due ∙ cell.is_due ∙ p)
      apart (inr (inr p)) = omega (arith, is_open.version, cell.version (sym cell.is_due ∙ is_open.due), made.version)

-- events keep the shape
shape_since : {State Slots Slot : Type 0} (R : Rules State Slots Slot) (laws : Laws R) (o : Start Slots) (later earlier : List (Event State Slots Slot)) → IsLegal R o (later ++ earlier) → R.SameShape (slots_of o earlier) (slots_of o (later ++ earlier))
shape_since R laws o [] earlier legal = laws.shape_itself (slots_of o earlier)
shape_since R laws o (Edits next listed to ∷ later) earlier legal =
    laws.shape_along (slots_of o earlier) (slots_of o (later ++ earlier)) next (shape_since R laws o later earlier legal.1) legal.0.shape
shape_since R laws o (Claims t c ∷ later) earlier legal = shape_since R laws o later earlier legal
shape_since R laws o (Stores t c x changed ∷ later) earlier legal = shape_since R laws o later earlier legal.1

module _ {State Slots Slot : Type 0} (R : Rules State Slots Slot) (laws : Laws R) (o : Start Slots) (old new : Seen State Slots) (done : Computed State Slots) (h : List (Event State Slots Slot)) (n : ℕ) (stands : Stands R o old h) (made : Made R o done.claim h n) where
  component : done.claim.cell.component < R.components old.slots
  component =
      let same = shape_since R laws o made.later (Claims done.claim.cell.cycle done.claim.cell.component ∷ made.earlier) (subst (IsLegal R o) made.splits stands.legal) in
      let shape = subst (λ l. R.SameShape (slots_of o made.earlier) (slots_of o l)) (sym made.splits) same in
      omega (arith, made.component, laws.shape_components (slots_of o made.earlier) (slots_of o h) shape, ap R.components stands.slots)

  there : done.claim.cell.cycle ≤ horizon_of o h → IsThere R old done.claim.cell.cycle done.claim.cell.component
  there k = record { cycle = omega (arith, stands.horizon); component = component }

  within : IsThere R old done.claim.cell.cycle done.claim.cell.component → done.claim.cell.cycle ≤ horizon_of o h
  within k = omega (arith, k.cycle, stands.horizon)

  cell : (k : IsThere R old done.claim.cell.cycle done.claim.cell.component) → CellStands R o old h done.claim.cell.cycle done.claim.cell.component
  cell k = stands.cells done.claim.cell.cycle done.claim.cell.component k

  refused : (IsOpen R old done.claim → ⊥) → overtaken R o h n done.claim.cell.cycle done.claim.cell.component ≡ true
  refused f = by_case (cases_Bool (overtaken R o h n done.claim.cell.cycle done.claim.cell.component))
    where
      by_case : (overtaken R o h n done.claim.cell.cycle done.claim.cell.component ≡ true) ⊎ (overtaken R o h n done.claim.cell.cycle done.claim.cell.component ≡ false) → overtaken R o h n done.claim.cell.cycle done.claim.cell.component ≡ true
      by_case (inl e) = e
      by_case (inr e) = absurd (f (when_kept R laws o old new done.claim h n stands made e).0)

  kept : IsOpen R old done.claim → overtaken R o h n done.claim.cell.cycle done.claim.cell.component ≡ false
  kept k = by_case (cases_Bool (overtaken R o h n done.claim.cell.cycle done.claim.cell.component))
    where
      by_case : (overtaken R o h n done.claim.cell.cycle done.claim.cell.component ≡ true) ⊎ (overtaken R o h n done.claim.cell.cycle done.claim.cell.component ≡ false) → overtaken R o h n done.claim.cell.cycle done.claim.cell.component ≡ false
      by_case (inl e) = absurd (when_overtaken R laws o old new done.claim h n stands made e k)
      by_case (inr e) = e

  -- a claim's own result is answered by what happened since
  pub answers_made : (given : Given (Computed State Slots)) → GivesAs R old done given new → AnswersMade R o h n done given
  answers_made Gone g = (refused (λ k. g.0 k.there), beyond (cases_lt (horizon_of o h) done.claim.cell.cycle))
    where
      beyond : (horizon_of o h < done.claim.cell.cycle) ⊎ (done.claim.cell.cycle ≤ horizon_of o h) → horizon_of o h < done.claim.cell.cycle
      beyond (inl k) = k
      beyond (inr k) = absurd (g.0 (there k))
  answers_made NotDue g = (refused (λ k. true≢false (sym k.due ∙ g.1)), within g.0, sym (cell g.0).is_due ∙ g.1)
  answers_made Overtaken g = (refused (λ k. g.2 k.version), within g.0, sym (cell g.0).is_due ∙ g.1)
  answers_made Foreign g = g.1 (when_kept R laws o old new done.claim h n stands made (kept g.0)).1
  answers_made (ClockSpent back) g = (kept g.1, sym stands.clock ∙ g.3, λ e. g.4 ((cell g.1.there).state ∙ e), g.0)
  answers_made (Memory back) g = (kept g.1, subst (λ n. n < 2 ^ 64 - 1) stands.clock g.3, λ e. g.4 ((cell g.1.there).state ∙ e), g.0)
  answers_made (Stored changed) g = (
    kept g.0,
    (λ e. sym (cell g.0.there).state ∙ g.2.changes.0 e, λ e. g.2.changes.1 ((cell g.0.there).state ∙ e)),
    λ e. omega (arith, g.3 e, stands.clock),
  )

module _ {State Slots Slot : Type 0} (R : Rules State Slots Slot) (laws : Laws R) (o : Start Slots) (v : Seen State Slots) (claim : Claimed State Slots) (h : List (Event State Slots Slot)) where
  -- a claim is made at the place of its event
  pub made_now : Stands R o v h → IsClaim R v claim → IsThere R v claim.cell.cycle claim.cell.component → (held_at v.rows claim.cell.cycle claim.cell.component).is_due ≡ true → Made R o claim (Claims claim.cell.cycle claim.cell.component ∷ h) (length h)
  made_now stands is_claim there is_due = record {
    later = [];
    earlier = h;
    splits = refl;
    place = refl;
    cycle = omega (arith, there.cycle, stands.horizon);
    component = omega (arith, there.component, ap R.components stands.slots);
    was_due = due_then;
    version = is_claim.version ∙ cell.version due_then;
    slots = is_claim.slots ∙ stands.slots;
    near = sym (inputs_stand R laws o v v h stands claim.cell.cycle claim.cell.component there) ∙ is_claim.near;
  }
    where
      cell : CellStands R o v h claim.cell.cycle claim.cell.component
      cell = stands.cells claim.cell.cycle claim.cell.component there

      due_then : due R o h claim.cell.cycle claim.cell.component ≡ true
      due_then = sym cell.is_due ∙ is_due

  pub stands_claimed : (t c : ℕ) → Stands R o v h → Stands R o v (Claims t c ∷ h)
  stands_claimed t c stands = record {
    legal = stands.legal;
    slots = stands.slots;
    horizon = stands.horizon;
    clock = stands.clock;
    cells = λ t1 c1 there. let s = stands.cells t1 c1 there in record { state = s.state; is_due = s.is_due; version = s.version };
  }

module _ {State Slots Slot : Type 0} (R : Rules State Slots Slot) (laws : Laws R) (v : Seen State Slots) where
  claimable_due : (t c : ℕ) → is_claimable R v t c ≡ true → (held_at v.rows t c).is_due ≡ true
  claimable_due t c h = (and_parts _ _ h).0

  pub claim_made : (t0 c0 : ℕ) {E : Type 0} (r : Result (Option (Claimed State Slots)) E) → IfOk r (λ q. IfSome q (λ claim. IsNextRound R v t0 c0 claim.cell)) → IfOk r (λ q. IfSome q (IsClaim R v)) → IfOk r (λ q. IfSome q (λ claim. (o : Start Slots) (h : List (Event State Slots Slot)) → Stands R o v h → Stands R o v (Claims claim.cell.cycle claim.cell.component ∷ h) × Made R o claim (Claims claim.cell.cycle claim.cell.component ∷ h) (length h)))
  claim_made t0 c0 (Err e) next is_claim = tt
  claim_made t0 c0 (Ok None) next is_claim = tt
  claim_made t0 c0 (Ok (Some claim)) next is_claim = λ o h stands. by_round o h stands next
    where
      by_round : (o : Start Slots) (h : List (Event State Slots Slot)) → Stands R o v h → IsNextRound R v t0 c0 claim.cell → Stands R o v (Claims claim.cell.cycle claim.cell.component ∷ h) × Made R o claim (Claims claim.cell.cycle claim.cell.component ∷ h) (length h)
      by_round o h stands (inl k) =
          (stands_claimed R laws o v claim h claim.cell.cycle claim.cell.component stands, made_now R laws o v claim h stands is_claim k.there (claimable_due claim.cell.cycle claim.cell.component k.claimable))
      by_round o h stands (inr k) =
          (stands_claimed R laws o v claim h claim.cell.cycle claim.cell.component stands, made_now R laws o v claim h stands is_claim k.1.there (claimable_due claim.cell.cycle claim.cell.component k.1.claimable))

module _ {State Slots Slot : Type 0} (R : Rules State Slots Slot) (laws : Laws R) (old new : Seen State Slots) where
  pub touch_stands : {E : Type 0} (r : Result (Unit {0}) E) (next : Slots) (listed : List Slot) (to : ℕ) → Differ R old.slots next listed → OnOk r (IsAfterTouch R old new next listed to) → OnOk r ((o : Start Slots) (h : List (Event State Slots Slot)) → Stands R o old h → Stands R o new (Edits next listed to ∷ h))
  touch_stands (Err e) next listed to differ after = tt
  touch_stands (Ok u) next listed to differ after = λ o h stands. stands_touched R laws o old new h stands next listed to differ after
