-- Settling stores exactly the cells that cost.
use Rattle.std.proofs.Common.{◌≡◌, ◌↔◌, ℕ, ◌+◌, ◌<◌, ◌∙◌, sym, ap, subst, refl, arith, Bool, true, false, cond, not, ◌&&◌, eqb, ◌⊎◌, inl, inr, Some, List, [], ◌∷◌, ◌++◌, length}
use Rattle.std.proofs.lemmas.Bool.{true≢false, false≢true, cases_Bool, and_parts, or_cases, eqb-true, eq-eqb}
use Rattle.std.proofs.lemmas.List.Elements.{recursion_from_All}
use Rattle.grid_law.specs.Rules.{Rules, Laws}
use Rattle.due_cells.specs.Seen.{Seen, held_at}
use Rattle.cell_states.proofs.Cases.{has_item, or_left, or_right}
use Rattle.cell_table.specs.Cells.{IsThere, AtOrAfter, Before}
use Rattle.cell_states.specs.Near.{has}
use Rattle.cell_table.specs.Events.{Event, Edits, Claims, Stores, Start, slots_of}
use Rattle.cell_table.specs.Values.{val}
use Rattle.cell_table.specs.Due.{due, changes}
use Rattle.cell_table.specs.Stands.{Stands}
use Rattle.grid_law.specs.Run.{run}
use Rattle.cell_table.specs.Settling.{NoneDueBefore, HoldsRunBefore, IsSettled, IsSettledCell, Settling}
use Rattle.cell_table.specs.Cost.{is_stored, IsInOrder, HasStaleNear, Costs, SettlesFirst, Settles}
use Rattle.due_cells.proofs.States.{neither}
use Rattle.cell_table.proofs.Ordering.{before_or_after, before_along}
use Rattle.cell_table.proofs.Standing.{stands_stored}

module _ {State Slots Slot : Type 0} (R : Rules State Slots Slot) (o : Start Slots) (h : List (Event State Slots Slot)) where
  -- stores of the run's states, each of a due cell that none of them stored before
  abbrev pub Pass : List (Event State Slots Slot) → Type 0
  Pass [] = Unit {0}
  Pass (Edits next listed to ∷ done) = ⊥
  Pass (Claims t c ∷ done) = ⊥
  Pass (Stores t c x changed ∷ done) =
      (due R o (done ++ h) t c ≡ true)
      × (x ≡ run R (slots_of o h) t c)
      × (is_stored done t c ≡ false)
      × ((changed ≡ false) ↔ (val R o (done ++ h) t c ≡ Some x))
      × Pass done

  slots_kept : (done : List (Event State Slots Slot)) → Pass done → slots_of o (done ++ h) ≡ slots_of o h
  slots_kept [] p = refl
  slots_kept (Edits next listed to ∷ done) p = absurd p
  slots_kept (Claims t c ∷ done) p = absurd p
  slots_kept (Stores t c x changed ∷ done) p = slots_kept done p.4

  -- a cell that wasn't stored keeps its value
  val_kept : (done : List (Event State Slots Slot)) → Pass done → (t c : ℕ) → is_stored done t c ≡ false → val R o (done ++ h) t c ≡ val R o h t c
  val_kept [] p t c e = refl
  val_kept (Edits next listed to ∷ done) p t c e = absurd p
  val_kept (Claims t1 c1 ∷ done) p t c e = absurd p
  val_kept (Stores t1 c1 x changed ∷ done) p t c e =
      let parts = neither ((eqb t t1) && (eqb c c1)) (is_stored done t c) e in
      ap (λ b. cond b (Some x) (val R o (done ++ h) t c)) parts.0 ∙ val_kept done p.4 t c parts.1

  -- a cell that is due by now costs
  costs_due : (done : List (Event State Slots Slot)) → Pass done → (t c : ℕ) → due R o (done ++ h) t c ≡ true → Costs R o h t c
  costs_due [] p t c e = inl e
  costs_due (Edits next listed to ∷ done) p t c e = absurd p
  costs_due (Claims t1 c1 ∷ done) p t c e = absurd p
  costs_due (Stores t1 c1 x changed ∷ done) p t c e =
      by_cause (or_cases (changed && ((eqb t (t1 + 1)) && has (R.near (slots_of o (done ++ h)) c) c1)) _ e) (λ k. costs_due done p.4 t c k)
    where
      by_cause : ((changed && ((eqb t (t1 + 1)) && has (R.near (slots_of o (done ++ h)) c) c1)) ≡ true) ⊎ ((not ((eqb t t1) && (eqb c c1)) && due R o (done ++ h) t c) ≡ true) → (due R o (done ++ h) t c ≡ true → Costs R o h t c) → Costs R o h t c
      by_cause (inl k) rest =
          let a = and_parts changed ((eqb t (t1 + 1)) && has (R.near (slots_of o (done ++ h)) c) c1) k in
          let b = and_parts (eqb t (t1 + 1)) (has (R.near (slots_of o (done ++ h)) c) c1) a.1 in
          inr (record {
            earlier = t1;
            one_before = eqb-true t (t1 + 1) b.0;
            component = c1;
            is_near = ap (λ s. has (R.near s c) c1) (sym (slots_kept done p.4)) ∙ b.1;
            stale = λ s. true≢false (sym a.0 ∙ p.3.1 (val_kept done p.4 t1 c1 p.2 ∙ s ∙ ap Some (sym p.1)));
          })
      by_cause (inr k) rest = rest (and_parts (not ((eqb t t1) && (eqb c c1))) (due R o (done ++ h) t c) k).1

  -- a cell that was stored costs
  pub stored_costs : (done : List (Event State Slots Slot)) → Pass done → (t c : ℕ) → is_stored done t c ≡ true → Costs R o h t c
  stored_costs [] p t c e = absurd (false≢true e)
  stored_costs (Edits next listed to ∷ done) p t c e = absurd p
  stored_costs (Claims t1 c1 ∷ done) p t c e = absurd p
  stored_costs (Stores t1 c1 x changed ∷ done) p t c e =
      by_place (or_cases ((eqb t t1) && (eqb c c1)) (is_stored done t c) e) (λ k. stored_costs done p.4 t c k)
    where
      by_place : (((eqb t t1) && (eqb c c1)) ≡ true) ⊎ (is_stored done t c ≡ true) → (is_stored done t c ≡ true → Costs R o h t c) → Costs R o h t c
      by_place (inl k) rest =
          let a = and_parts (eqb t t1) (eqb c c1) k in
          let i : t ≡ t1 = eqb-true t t1 a.0 in
          let j : c ≡ c1 = eqb-true c c1 a.1 in
          costs_due done p.4 t c (ap (λ n. due R o (done ++ h) n c) i ∙ ap (λ n. due R o (done ++ h) t1 n) j ∙ p.0)
      by_place (inr k) rest = rest k

  -- a cell that was stored or is due, is so after one store more
  still : (done : List (Event State Slots Slot)) (t1 c1 : ℕ) (x : State) (changed : Bool) (t c : ℕ) → (is_stored done t c ≡ true) ⊎ (due R o (done ++ h) t c ≡ true) → (is_stored (Stores t1 c1 x changed ∷ done) t c ≡ true) ⊎ (due R o (Stores t1 c1 x changed ∷ done ++ h) t c ≡ true)
  still done t1 c1 x changed t c (inl e) = inl (or_right ((eqb t t1) && (eqb c c1)) (is_stored done t c) e)
  still done t1 c1 x changed t c (inr e) = by_store (cases_Bool ((eqb t t1) && (eqb c c1)))
    where
      by_store : (((eqb t t1) && (eqb c c1)) ≡ true) ⊎ (((eqb t t1) && (eqb c c1)) ≡ false) → (is_stored (Stores t1 c1 x changed ∷ done) t c ≡ true) ⊎ (due R o (Stores t1 c1 x changed ∷ done ++ h) t c ≡ true)
      by_store (inl k) = inl (or_left ((eqb t t1) && (eqb c c1)) (is_stored done t c) k)
      by_store (inr k) =
          inr (or_right (changed && ((eqb t (t1 + 1)) && has (R.near (slots_of o (done ++ h)) c) c1)) _ (ap (λ b. not b && due R o (done ++ h) t c) k ∙ e))

  stored_or_due : (done : List (Event State Slots Slot)) → Pass done → (t c : ℕ) → due R o h t c ≡ true → (is_stored done t c ≡ true) ⊎ (due R o (done ++ h) t c ≡ true)
  stored_or_due [] p t c e = inr e
  stored_or_due (Edits next listed to ∷ done) p t c e = absurd p
  stored_or_due (Claims t1 c1 ∷ done) p t c e = absurd p
  stored_or_due (Stores t1 c1 x changed ∷ done) p t c e = still done t1 c1 x changed t c (stored_or_due done p.4 t c e)

  -- once the stale near cell was stored, the cell was stored or is due
  stale_or_due : (done : List (Event State Slots Slot)) → Pass done → (t c : ℕ) (s : HasStaleNear R o h t c) → is_stored done s.earlier s.component ≡ true → (is_stored done t c ≡ true) ⊎ (due R o (done ++ h) t c ≡ true)
  stale_or_due [] p t c s e = absurd (false≢true e)
  stale_or_due (Edits next listed to ∷ done) p t c s e = absurd p
  stale_or_due (Claims t1 c1 ∷ done) p t c s e = absurd p
  stale_or_due (Stores t1 c1 x changed ∷ done) p t c s e =
      by_place (or_cases ((eqb s.earlier t1) && (eqb s.component c1)) (is_stored done s.earlier s.component) e) (λ k. stale_or_due done p.4 t c s k)
    where
      by_place : (((eqb s.earlier t1) && (eqb s.component c1)) ≡ true) ⊎ (is_stored done s.earlier s.component ≡ true) → (is_stored done s.earlier s.component ≡ true → (is_stored done t c ≡ true) ⊎ (due R o (done ++ h) t c ≡ true)) → (is_stored (Stores t1 c1 x changed ∷ done) t c ≡ true) ⊎ (due R o (Stores t1 c1 x changed ∷ done ++ h) t c ≡ true)
      by_place (inr k) rest = still done t1 c1 x changed t c (rest k)
      by_place (inl k) rest = by_change (cases_Bool changed)
        where
          i : s.earlier ≡ t1
          i = eqb-true s.earlier t1 (and_parts (eqb s.earlier t1) (eqb s.component c1) k).0

          j : s.component ≡ c1
          j = eqb-true s.component c1 (and_parts (eqb s.earlier t1) (eqb s.component c1) k).1

          marks : changed ≡ true → changes R o (Stores t1 c1 x changed) (done ++ h) t c ≡ true
          marks f =
              ap (λ b. b && ((eqb t (t1 + 1)) && has (R.near (slots_of o (done ++ h)) c) c1)) f ∙ ap (λ b. b && has (R.near (slots_of o (done ++ h)) c) c1) (eq-eqb t (t1 + 1) (s.one_before ∙ ap (λ n. n + 1) i)) ∙ ap (λ s. has (R.near s c) c1) (slots_kept done p.4) ∙ ap (λ m. has (R.near (slots_of o h) c) m) (sym j) ∙ s.is_near

          same_then : changed ≡ false → val R o h s.earlier s.component ≡ Some (run R (slots_of o h) s.earlier s.component)
          same_then f =
              ap (λ n. val R o h n s.component) i ∙ ap (λ n. val R o h t1 n) j ∙ sym (val_kept done p.4 t1 c1 p.2) ∙ p.3.0 f ∙ ap Some p.1 ∙ ap (λ n. Some (run R (slots_of o h) n c1)) (sym i) ∙ ap (λ n. Some (run R (slots_of o h) s.earlier n)) (sym j)

          by_change : (changed ≡ true) ⊎ (changed ≡ false) → (is_stored (Stores t1 c1 x changed ∷ done) t c ≡ true) ⊎ (due R o (Stores t1 c1 x changed ∷ done ++ h) t c ≡ true)
          by_change (inl f) = inr (or_left (changes R o (Stores t1 c1 x changed) (done ++ h) t c) _ (marks f))
          by_change (inr f) = absurd (s.stale (same_then f))

  -- a cell that costs was stored, where it isn't due now and the near cells hold the run
  pub costs_stored : (done : List (Event State Slots Slot)) → Pass done → (t c : ℕ) → due R o (done ++ h) t c ≡ false → ((t1 m : ℕ) → t ≡ t1 + 1 → has (R.near (slots_of o h) c) m ≡ true → val R o (done ++ h) t1 m ≡ Some (run R (slots_of o h) t1 m)) → Costs R o h t c → is_stored done t c ≡ true
  costs_stored done p t c not_due runs costs = by_cost costs
    where
      not_left_due : (is_stored done t c ≡ true) ⊎ (due R o (done ++ h) t c ≡ true) → is_stored done t c ≡ true
      not_left_due (inl e) = e
      not_left_due (inr e) = absurd (true≢false (sym e ∙ not_due))

      by_cost : Costs R o h t c → is_stored done t c ≡ true
      by_cost (inl e) = not_left_due (stored_or_due done p t c e)
      by_cost (inr s) = by_near (cases_Bool (is_stored done s.earlier s.component))
        where
          by_near : (is_stored done s.earlier s.component ≡ true) ⊎ (is_stored done s.earlier s.component ≡ false) → is_stored done t c ≡ true
          by_near (inl e) = not_left_due (stale_or_due done p t c s e)
          by_near (inr e) = absurd (s.stale (sym (val_kept done p s.earlier s.component e) ∙ runs s.earlier s.component s.one_before s.is_near))

module _ {State Slots Slot : Type 0} (R : Rules State Slots Slot) (laws : Laws R) (o : Start Slots) (h : List (Event State Slots Slot)) (old : Seen State Slots) (stands : Stands R o old h) where
  -- what is true once these cells were settled
  record Passed (done : List (Event State Slots Slot)) (new : Seen State Slots) (t0 c0 : ℕ) : Type 0 where
    now : Stands R o new (done ++ h)
    pass : Pass R o h done
    same_slots : new.slots ≡ old.slots
    same_horizon : new.horizon ≡ old.horizon
    in_order : IsInOrder done
    before : (t c : ℕ) → is_stored done t c ≡ true → Before t c t0 c0
    inside : (t c : ℕ) → is_stored done t c ≡ true → IsThere R old t c

  passed_more : (done : List (Event State Slots Slot)) (mid new : Seen State Slots) (t0 c0 t c : ℕ) (x : State) (changed : Bool) (q : Passed done mid t c) (s : IsSettledCell R mid new t c x changed) (b : Before t c t0 c0) → Passed (Stores t c x changed ∷ done) new t0 c0
  passed_more done mid new t0 c0 t c x changed q s b = record {
    now = now;
    pass = (sym (q.now.cells t c s.there).is_due ∙ s.due, s.runs ∙ ap (λ p. run R p t c) (q.same_slots ∙ stands.slots), fresh, now.legal.0, q.pass);
    same_slots = s.after.slots ∙ q.same_slots;
    same_horizon = s.after.horizon ∙ q.same_horizon;
    in_order = (q.before, q.in_order);
    before = before;
    inside = inside;
  }
    where
      now : Stands R o new (Stores t c x changed ∷ done ++ h)
      now = stands_stored R laws o mid new (done ++ h) q.now t c x changed s.there s.after

      fresh : is_stored done t c ≡ false
      fresh = by_case (cases_Bool (is_stored done t c))
        where
          by_case : (is_stored done t c ≡ true) ⊎ (is_stored done t c ≡ false) → is_stored done t c ≡ false
          by_case (inl e) = let l = (q.before t c e).1 refl in absurd (omega arith)
          by_case (inr e) = e

      here : IsThere R old t c
      here = record { cycle = omega (arith, s.there.cycle, q.same_horizon); component = subst (λ p. c < R.components p) q.same_slots s.there.component }

      inside : (t1 c1 : ℕ) → is_stored (Stores t c x changed ∷ done) t1 c1 ≡ true → IsThere R old t1 c1
      inside t1 c1 e = by_place (or_cases ((eqb t1 t) && (eqb c1 c)) (is_stored done t1 c1) e)
        where
          by_place : (((eqb t1 t) && (eqb c1 c)) ≡ true) ⊎ (is_stored done t1 c1 ≡ true) → IsThere R old t1 c1
          by_place (inl k) =
              let a = and_parts (eqb t1 t) (eqb c1 c) k in
              let i : t1 ≡ t = eqb-true t1 t a.0 in
              let j : c1 ≡ c = eqb-true c1 c a.1 in
              rw (i, j) here
          by_place (inr k) = q.inside t1 c1 k

      before : (t1 c1 : ℕ) → is_stored (Stores t c x changed ∷ done) t1 c1 ≡ true → Before t1 c1 t0 c0
      before t1 c1 e = by_place (or_cases ((eqb t1 t) && (eqb c1 c)) (is_stored done t1 c1) e)
        where
          by_place : (((eqb t1 t) && (eqb c1 c)) ≡ true) ⊎ (is_stored done t1 c1 ≡ true) → Before t1 c1 t0 c0
          by_place (inl k) =
              let a = and_parts (eqb t1 t) (eqb c1 c) k in
              let i : t1 ≡ t = eqb-true t1 t a.0 in
              let j : c1 ≡ c = eqb-true c1 c a.1 in
              (omega (arith, b.0), λ f. let l = b.1 (omega arith) in omega arith)
          by_place (inr k) =
              before_along t1 c1 t c t0 c0 (q.before t1 c1 k) (b.0, λ f. let l = b.1 f in omega arith)

  passed : (done : List (Event State Slots Slot)) (new : Seen State Slots) (t0 c0 : ℕ) → Settling R old done new t0 c0 → Passed done new t0 c0
  passed [] new t0 c0 e = record {
    now = subst (λ v. Stands R o v h) (sym e) stands;
    pass = tt;
    same_slots = ap (λ (v : Seen State Slots). v.slots) e;
    same_horizon = ap (λ (v : Seen State Slots). v.horizon) e;
    in_order = tt;
    before = λ t c k. absurd (false≢true k);
    inside = λ t c k. absurd (false≢true k);
  }
  passed (Edits next listed to ∷ done) new t0 c0 e = absurd e
  passed (Claims t c ∷ done) new t0 c0 e = absurd e
  passed (Stores t c x changed ∷ done) new t0 c0 e =
      passed_more done e.0 new t0 c0 t c x changed (passed done e.0 t c e.1) e.2 e.3

  module _ (done : List (Event State Slots Slot)) (new : Seen State Slots) (t0 c0 : ℕ) (settling : Settling R old done new t0 c0) where
    q : Passed done new t0 c0
    q = passed done new t0 c0 settling

    same : new.slots ≡ slots_of o h
    same = q.same_slots ∙ stands.slots

    -- the near cells have the run's values, where the cells of earlier cycles hold the run
    near_runs : (t c : ℕ) → IsThere R new t c → ((t1 c1 : ℕ) → IsThere R new t1 c1 → t1 < t → (held_at new.rows t1 c1).state ≡ Some (run R new.slots t1 c1)) → (t1 m : ℕ) → t ≡ t1 + 1 → has (R.near (slots_of o h) c) m ≡ true → val R o (done ++ h) t1 m ≡ Some (run R (slots_of o h) t1 m)
    near_runs t c there runs t1 m e near =
        sym (q.now.cells t1 m there_near).state ∙ runs t1 m there_near (omega arith) ∙ ap (λ s. Some (run R s t1 m)) same
      where
        inside : c < R.components (slots_of o h)
        inside = subst (λ s. c < R.components s) same there.component

        there_near : IsThere R new t1 m
        there_near = record {
          cycle = omega (arith, there.cycle);
          component = subst (λ s. m < R.components s) (sym same) (has_item (λ k. k < R.components (slots_of o h)) (R.near (slots_of o h) c) m (recursion_from_All _ (R.near (slots_of o h) c) (laws.near_within (slots_of o h) c inside)) near);
        }

    there_now : (t c : ℕ) → IsThere R old t c → IsThere R new t c
    there_now t c k = record { cycle = omega (arith, k.cycle, q.same_horizon); component = subst (λ s. c < R.components s) (sym q.same_slots) k.component }

    stored_there : (t c : ℕ) → IsThere R new t c → ((t1 c1 : ℕ) → IsThere R new t1 c1 → t1 < t → (held_at new.rows t1 c1).state ≡ Some (run R new.slots t1 c1)) → (held_at new.rows t c).is_due ≡ false → Costs R o h t c → is_stored done t c ≡ true
    stored_there t c there runs settled costs =
        costs_stored R o h done q.pass t c (sym (q.now.cells t c there).is_due ∙ settled) (near_runs t c there runs) costs

    -- those that cost before that place were stored
    pub settles_before : NoneDueBefore R new t0 c0 → HoldsRunBefore R new t0 c0 → (t c : ℕ) → IsThere R new t c → Before t c t0 c0 → Costs R o h t c → is_stored done t c ≡ true
    settles_before none runs t c there b costs =
        stored_there t c there (λ t1 c1 k l. runs t1 c1 k (omega (arith, b.0), λ f. absurd (omega (arith, b.0)))) (none t c there b) costs

    -- the cells settled are the first of those that cost
    pub settles_first : NoneDueBefore R new t0 c0 → HoldsRunBefore R new t0 c0 → SettlesFirst R o h new done (length done)
    settles_first none runs = record {
      stands = q.now;
      in_order = q.in_order;
      number = refl;
      only = λ t c e. (there_now t c (q.inside t c e), stored_costs R o h done q.pass t c e);
      first = λ t c there costs. by_place t c there costs (before_or_after t0 c0 t c);
    }
      where
        by_place : (t c : ℕ) → IsThere R new t c → Costs R o h t c → Before t c t0 c0 ⊎ AtOrAfter t0 c0 t c → (is_stored done t c ≡ true) ⊎ ((t1 c1 : ℕ) → is_stored done t1 c1 ≡ true → Before t1 c1 t c)
        by_place t c there costs (inl b) = inl (settles_before none runs t c there b costs)
        by_place t c there costs (inr a) = inr (λ t1 c1 e. before_along t1 c1 t0 c0 t c (q.before t1 c1 e) a)

    -- where the table is settled, they are all of them
    pub settles_all : NoneDueBefore R new t0 c0 → HoldsRunBefore R new t0 c0 → IsSettled R new → Settles R o h new done (length done)
    settles_all none runs settled = record {
      firsts = settles_first none runs;
      all = λ t c there costs. stored_there t c there (λ t1 c1 k l. settled.runs t1 c1 k) (settled.none_due t c there) costs;
    }

    -- and none behind it
    pub stored_before : (t c : ℕ) → is_stored done t c ≡ true → Before t c t0 c0
    stored_before t c e = q.before t c e
