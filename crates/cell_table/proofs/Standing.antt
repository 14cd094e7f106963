-- A table goes on standing for its history.
use Rattle.std.proofs.Common.{◌≡◌, ℕ, ◌+◌, ◌-◌, ◌<◌, ◌∙◌, sym, ap, subst, refl, arith, Bool, true, false, cond, not, ltb, eqb, ◌||◌, ◌&&◌, Option, None, Some, List, [], ◌∷◌}
use Rattle.std.specs.List.{AllByRecursion}
use Rattle.std.proofs.lemmas.Bool.{true≢false, false≢true, ltb-false, eqb-true, eqb-false, and_parts, and_left, and_right, ne_eqb}
use Rattle.std.proofs.lemmas.List.Elements.{recursion_from_All}
use Rattle.grid_law.specs.Rules.{Rules, Laws, Differ}
use Rattle.due_cells.specs.Seen.{Held, Seen, row_at, held_at, held_in, fresh, marked, stored}
use Rattle.cell_table.specs.Cells.{IsThere}
use Rattle.due_cells.specs.Inputs.{states_of, inputs_of}
use Rattle.cell_states.specs.Near.{has}
use Rattle.cell_table.specs.Reads.{reads_any}
use Rattle.cell_table.specs.Gives.{IsAfterStore}
use Rattle.cell_table.specs.Touches.{cell_reads, IsAfterTouch}
use Rattle.cell_table.specs.Events.{Event, Edits, Stores, Start, slots_of, horizon_of}
use Rattle.cell_table.specs.Values.{val, vals, near_vals}
use Rattle.cell_table.specs.Due.{due}
use Rattle.cell_table.specs.Clock.{clock_of, version_of}
use Rattle.cell_table.specs.Stands.{Stands, CellStands}

pub cond_later : {X : Type 0} (t : ℕ) (x a b : X) → ((t ≡ 0 → ⊥) → a ≡ b) → cond (eqb t 0) x a ≡ cond (eqb t 0) x b
cond_later {X} t x a b f = by_test (eqb t 0) refl
  where
    by_test : (v : Bool) → eqb t 0 ≡ v → cond v x a ≡ cond v x b
    by_test true e = refl
    by_test false e = f (eqb-false t 0 e)

-- what is said of a cell
record Says {State : Type 0} (r : Held State) (state : Option State) (d : Bool) (version : ℕ) : Type 0 where
  state_is : r.state ≡ state
  due_is : r.is_due ≡ d
  version_is : d ≡ true → r.version ≡ version

module _ {State : Type 0} where
  pub states_vals : (row : List (Held State)) (at : ℕ → Option State) (ms : List ℕ) → AllByRecursion (λ m. (held_in row m).state ≡ at m) ms → states_of row ms ≡ vals at ms
  states_vals row at [] h = refl
  states_vals row at (m ∷ ms) h = rw (h.0, states_vals row at ms h.1) refl

  same_touched : (b1 d1 b2 d2 : Bool) (r : Held State) (k l : ℕ) → b1 ≡ d1 → (b1 ≡ false → b2 ≡ d2) → k ≡ l → cond b1 (fresh k) (cond b2 (marked r k) r) ≡ cond d1 (fresh l) (cond d2 (marked r l) r)
  same_touched true d1 b2 d2 r k l e f q = ap fresh q ∙ ap (λ b. cond b (fresh l) (cond d2 (marked r l) r)) e
  same_touched false d1 b2 d2 r k l e f q =
      ap (λ b. cond b (marked r k) r) (f refl) ∙ ap (λ n. cond d2 (marked r n) r) q ∙ ap (λ b. cond b (fresh l) (cond d2 (marked r l) r)) e

  says_touched : (b1 b2 : Bool) (r : Held State) (k : ℕ) (state : Option State) (d : Bool) (version : ℕ) → (b1 ≡ false → Says r state d version) → Says (cond b1 (fresh k) (cond b2 (marked r k) r)) (cond b1 None state) ((b1 || b2) || (not false && d)) (cond (b1 || b2) k version)
  says_touched true b2 r k state d version s = record { state_is = refl; due_is = refl; version_is = λ e. refl }
  says_touched false true r k state d version s = record { state_is = (s refl).state_is; due_is = refl; version_is = λ e. refl }
  says_touched false false r k state d version s = s refl

  says_stored : (b1 b2 : Bool) (r : Held State) (x : State) (k : ℕ) (state : Option State) (d : Bool) (version : ℕ) → (b1 ≡ true → b2 ≡ false) → Says r state d version → Says (cond b1 (stored x) (cond b2 (marked r k) r)) (cond b1 (Some x) state) (b2 || (not b1 && d)) (cond b2 k version)
  says_stored true true r x k state d version f s = absurd (true≢false (f refl))
  says_stored true false r x k state d version f s = record { state_is = refl; due_is = refl; version_is = λ e. absurd (false≢true e) }
  says_stored false true r x k state d version f s = record { state_is = s.state_is; due_is = refl; version_is = λ e. refl }
  says_stored false false r x k state d version f s = s

module _ {State Slots Slot : Type 0} (R : Rules State Slots Slot) (laws : Laws R) (o : Start Slots) (v new : Seen State Slots) (h : List (Event State Slots Slot)) (stands : Stands R o v h) where
  says_now : (t c : ℕ) → IsThere R v t c → Says (held_at v.rows t c) (val R o h t c) (due R o h t c) (version_of R o h t c)
  says_now t c there =
      let s = stands.cells t c there in
      record { state_is = s.state; due_is = s.is_due; version_is = s.version }

  -- the states that a cell is computed from are those of the history
  pub inputs_stand : (t c : ℕ) → IsThere R v t c → inputs_of R v.slots v.rows t c ≡ near_vals R o h t c
  inputs_stand t c there = cond_later t (Some []) _ _ (λ n. states_vals (row_at v.rows (t - 1)) (val R o h (t - 1)) (R.near v.slots c) (each (R.near v.slots c) (recursion_from_All _ (R.near v.slots c) (laws.near_within v.slots c there.component))) ∙ ap (λ s. vals (val R o h (t - 1)) (R.near s c)) stands.slots)
    where
      each : (ms : List ℕ) → AllByRecursion (λ m. m < R.components v.slots) ms → AllByRecursion (λ m. (held_at v.rows (t - 1) m).state ≡ val R o h (t - 1) m) ms
      each [] p = tt
      each (m ∷ ms) p = ((stands.cells (t - 1) m (record { cycle = omega (arith, there.cycle); component = p.0 })).state, each ms p.1)

  pub stands_touched : (next : Slots) (listed : List Slot) (to : ℕ) → Differ R v.slots next listed → IsAfterTouch R v new next listed to → Stands R o new (Edits next listed to ∷ h)
  stands_touched next listed to differ after = record {
    legal = (subst (λ s. Differ R s next listed) stands.slots differ, stands.legal);
    slots = after.slots;
    horizon = after.horizon;
    clock = after.clock ∙ ap (λ n. n + 1) stands.clock;
    cells = cells;
  }
    where
      cells : (t c : ℕ) → IsThere R new t c → CellStands R o new (Edits next listed to ∷ h) t c
      cells t c there = record { state = says.state_is; is_due = says.due_is; version = says.version_is }
        where
          component : c < R.components v.slots
          component = omega (arith, there.component, laws.shape_components v.slots next differ.shape, ap R.components after.slots)

          there_before : ltb v.horizon t ≡ false → IsThere R v t c
          there_before e = record { cycle = ltb-false v.horizon t e; component = component }

          says : Says (held_at new.rows t c) (val R o (Edits next listed to ∷ h) t c) (due R o (Edits next listed to ∷ h) t c) (version_of R o (Edits next listed to ∷ h) t c)
          says =
              let r = held_at v.rows t c in
              let d1 = ltb (horizon_of o h) t in
              let d2 = reads_any R (slots_of o h) c listed (near_vals R o h t c) in
              let e1 : ltb v.horizon t ≡ d1 = ap (λ n. ltb n t) stands.horizon in
              let e2 : ltb v.horizon t ≡ false → cell_reads R v.slots v.rows listed t c ≡ d2 = λ e. ap (λ s. reads_any R s c listed (inputs_of R v.slots v.rows t c)) stands.slots ∙ ap (reads_any R (slots_of o h) c listed) (inputs_stand t c (there_before e)) in
              let eq = after.cells t c there ∙ same_touched _ d1 _ d2 r _ (clock_of R o h + 1) e1 e2 (ap (λ n. n + 1) stands.clock) in
              subst (λ n. Says n (val R o (Edits next listed to ∷ h) t c) (due R o (Edits next listed to ∷ h) t c) (version_of R o (Edits next listed to ∷ h) t c)) (sym eq) (says_touched d1 d2 r (clock_of R o h + 1) (val R o h t c) (due R o h t c) (version_of R o h t c) (λ e. says_now t c (there_before (e1 ∙ e))))

  pub stands_stored : (t c : ℕ) (x : State) (changed : Bool) → IsThere R v t c → IsAfterStore R v new t c x changed → Stands R o new (Stores t c x changed ∷ h)
  stands_stored t c x changed here after = record {
    legal = (rw (stands.cells t c here).state at after.changes, stands.legal);
    slots = after.slots ∙ stands.slots;
    horizon = after.horizon ∙ stands.horizon;
    clock = clock;
    cells = cells;
  }
    where
      clock : new.clock ≡ clock_of R o (Stores t c x changed ∷ h)
      clock = after.clock ∙ ap (λ n. cond changed (n + 1) n) stands.clock

      cells : (t1 c1 : ℕ) → IsThere R new t1 c1 → CellStands R o new (Stores t c x changed ∷ h) t1 c1
      cells t1 c1 there = record { state = says.state_is; is_due = says.due_is; version = says.version_is }
        where
          before : IsThere R v t1 c1
          before = record { cycle = omega (arith, there.cycle, after.horizon); component = subst (λ s. c1 < R.components s) after.slots there.component }

          says : Says (held_at new.rows t1 c1) (val R o (Stores t c x changed ∷ h) t1 c1) (due R o (Stores t c x changed ∷ h) t1 c1) (version_of R o (Stores t c x changed ∷ h) t1 c1)
          says =
              let r = held_at v.rows t1 c1 in
              let b1 = (eqb t1 t) && (eqb c1 c) in
              let d2 = changed && ((eqb t1 (t + 1)) && has (R.near (slots_of o h) c1) c) in
              let e2 : (changed && ((eqb t1 (t + 1)) && has (R.near v.slots c1) c)) ≡ d2 = ap (λ s. changed && ((eqb t1 (t + 1)) && has (R.near s c1) c)) stands.slots in
              let eq = after.cells t1 c1 before ∙ ap (λ b. cond b1 (stored x) (cond b (marked r new.clock) r)) e2 ∙ ap (λ n. cond b1 (stored x) (cond d2 (marked r n) r)) clock in
              let unread : b1 ≡ true → d2 ≡ false = λ e. and_right _ _ (and_left (eqb t1 (t + 1)) _ (ne_eqb t1 (t + 1) (λ q. let p : t1 ≡ t = eqb-true t1 t (and_parts (eqb t1 t) (eqb c1 c) e).0 in absurd (omega arith)))) in
              subst (λ n. Says n (val R o (Stores t c x changed ∷ h) t1 c1) (due R o (Stores t c x changed ∷ h) t1 c1) (version_of R o (Stores t c x changed ∷ h) t1 c1)) (sym eq) (says_stored b1 d2 r x (clock_of R o (Stores t c x changed ∷ h)) (val R o h t1 c1) (due R o h t1 c1) (version_of R o h t1 c1) unread (says_now t1 c1 before))
