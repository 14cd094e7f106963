-- Cycles of cells are settled: the stores of each cycle, one component after another.
use Rattle.std.proofs.Common.{◌≡◌, ◌↔◌, ℕ, zero, suc, ◌+◌, ◌-◌, ◌*◌, ◌^◌, ◌<◌, ◌≤◌, ◌∙◌, sym, ap, subst, refl, arith, Bool, true, false, cond, eqb, ◌&&◌, eq-eqb, ◌⊎◌, inl, inr, Option, Some, List, [], length, map}
use Rattle.std.specs.List.{range_with_len}
use Rattle.std.proofs.lemmas.Bool.{true≢false, cases_lt, cases_eq, ne_eqb}
use Rattle.std.proofs.lemmas.List.FromFn.{length-map-range_with_len, get_or-map-range_with_len, fill_by_all}
use Rattle.cell_states.specs.declared.cell.Cell.{Cell}
use Rattle.grid_law.specs.Rules.{Rules, Laws}
use Rattle.grid_law.specs.Run.{run}
use Rattle.due_cells.specs.Seen.{Held, Seen, nothing, stored, marked, row_at, held_in, held_at}
use Rattle.cell_table.specs.Cells.{IsThere, Before}
use Rattle.cell_states.specs.Near.{has}
use Rattle.cell_table.specs.Consistent.{IsTable, IsWhole, IsCurrentState, current_of}
use Rattle.due_cells.specs.Stores.{held_after}
use Rattle.cell_table.specs.Gives.{IsAfterStore}
use Rattle.cell_table.specs.Settling.{IsNextDue, SettlesNext, IsAt}
use Rattle.due_cells.specs.Woken.{differing, woken}
use Rattle.due_cells.proofs.MarkedCycle.{differing_le}
use Rattle.cell_table.specs.Passing.{clock_behind, reached, costing, cost_of, IsPassed}
use Rattle.cell_table.proofs.Tables.{is_ready}
use Rattle.cell_table.proofs.Stores.{is_table_after, current_of_inputs}
use Rattle.cell_table.proofs.Runs.{computes_run, holds_run_at}
use Rattle.cell_table.proofs.Settling.{settles_as}
use Rattle.cell_table.proofs.Passes.{goes_on, settling_along}

one_more : (n w : ℕ) → suc n * w ≡ n * w + w
one_more n w = omega arith

and_false : (a b : Bool) → a ≡ false → (a && b) ≡ false
and_false true b e = absurd (true≢false e)
and_false false b e = refl

and_false_right : (a b : Bool) → b ≡ false → (a && b) ≡ false
and_false_right true b e = e
and_false_right false b e = refl

module _ {State : Type 0} where
  abbrev built : (ℕ → ℕ → Held State) → ℕ → ℕ → List (List (Held State))
  built f n w = map (λ t. map (f t) (range_with_len 0 w)) (range_with_len 0 n)

  built_row : (f : ℕ → ℕ → Held State) (n w t : ℕ) → t < n → row_at (built f n w) t ≡ map (f t) (range_with_len 0 w)
  built_row f n w t h = get_or-map-range_with_len (λ t. map (f t) (range_with_len 0 w)) 0 n t t [] h (omega arith)

  built_at : (f : ℕ → ℕ → Held State) (n w t c : ℕ) → t < n → c < w → held_at (built f n w) t c ≡ f t c
  built_at f n w t c h k = ap (λ row. held_in row c) (built_row f n w t h) ∙ get_or-map-range_with_len (f t) 0 w c c nothing k (omega arith)

  built_len : (f : ℕ → ℕ → Held State) (n w t : ℕ) → t < n → length (row_at (built f n w) t) ≡ w
  built_len f n w t h = ap length (built_row f n w t h) ∙ length-map-range_with_len (f t) 0 w

  -- rows are known by their cells
  is_built : (f : ℕ → ℕ → Held State) (n w : ℕ) (rows : List (List (Held State))) → length rows ≡ n → ((t : ℕ) → t < n → length (row_at rows t) ≡ w) → ((t c : ℕ) → t < n → c < w → held_at rows t c ≡ f t c) → rows ≡ built f n w
  is_built f n w rows len lens at =
      fill_by_all (λ t. map (f t) (range_with_len 0 w)) rows n [] len (λ t h. fill_by_all (f t) (row_at rows t) w nothing (lens t h) (λ c k. at t c h k))

  -- a cell after a store: of itself, of another cell that it doesn't read, of one that it reads
  own_cell : (b1 b2 : Bool) (r : Held State) (x : State) (v : ℕ) → b1 ≡ true → cond b1 (stored x) (cond b2 (marked r v) r) ≡ stored x
  own_cell true b2 r x v e = refl
  own_cell false b2 r x v e = absurd (true≢false (sym e))

  other_cell : (b1 b2 : Bool) (r : Held State) (x : State) (v : ℕ) → b1 ≡ false → b2 ≡ false → cond b1 (stored x) (cond b2 (marked r v) r) ≡ r
  other_cell true b2 r x v e f = absurd (true≢false e)
  other_cell false true r x v e f = absurd (true≢false f)
  other_cell false false r x v e f = refl

  next_cell : (b1 b2 b3 : Bool) (r : Held State) (x : State) (v w : ℕ) → b1 ≡ false → b2 ≡ b3 → (b3 ≡ true → v ≡ w) → cond b1 (stored x) (cond b2 (marked r v) r) ≡ cond b3 (marked r w) r
  next_cell true b2 b3 r x v w e f g = absurd (true≢false e)
  next_cell false b2 true r x v w e f g = rw f (ap (marked r) (g refl))
  next_cell false b2 false r x v w e f g = rw f refl

  -- a cell that isn't due is known by its state and its version
  settled_cell : (r : Held State) (x : State) → r.is_due ≡ false → r.state ≡ Some x → r.version ≡ 0 → r ≡ stored x
  settled_cell r x d e v =
      ap (λ (b : Bool). record { state = r.state; is_due = b; version = r.version }) d
      ∙ ap (λ (s : Option State). record { state = s; is_due = false; version = r.version }) e
      ∙ ap (λ (n : ℕ). record { state = Some x; is_due = false; version = n }) v

cond_true : {X : Type 0} (b : Bool) (x y : X) → b ≡ true → cond b x y ≡ x
cond_true true x y e = refl
cond_true false x y e = absurd (true≢false (sym e))

cond_false : {X : Type 0} (b : Bool) (x y : X) → b ≡ false → cond b x y ≡ y
cond_false true x y e = absurd (true≢false e)
cond_false false x y e = refl

module _ {State Slots Slot : Type 0} (R : Rules State Slots Slot) (old : Seen State Slots) (differs : ℕ → ℕ → Bool) (from : ℕ) where
  -- a mark changes no state
  pub woken_state : (clock t n c : ℕ) → (woken R old.slots old.rows differs clock t n c).state ≡ (held_at old.rows (t + 1) c).state
  woken_state clock t zero c = refl
  woken_state clock t (suc n) c = by_mark (differs t n && has (R.near old.slots c) n) ∙ woken_state clock t n c
    where
      by_mark : (b : Bool) → (cond b (marked (woken R old.slots old.rows differs clock t n c) (clock + (differing differs t n + 1))) (woken R old.slots old.rows differs clock t n c)).state ≡ (woken R old.slots old.rows differs clock t n c).state
      by_mark true = refl
      by_mark false = refl

  -- and what isn't due afterwards wasn't marked
  pub woken_settled : (clock t n c : ℕ) → (woken R old.slots old.rows differs clock t n c).is_due ≡ false → woken R old.slots old.rows differs clock t n c ≡ held_at old.rows (t + 1) c
  woken_settled clock t zero c e = refl
  woken_settled clock t (suc n) c e = by_mark (differs t n && has (R.near old.slots c) n) e (woken_settled clock t n c)
    where
      by_mark : (b : Bool) → (cond b (marked (woken R old.slots old.rows differs clock t n c) (clock + (differing differs t n + 1))) (woken R old.slots old.rows differs clock t n c)).is_due ≡ false → ((woken R old.slots old.rows differs clock t n c).is_due ≡ false → woken R old.slots old.rows differs clock t n c ≡ held_at old.rows (t + 1) c) → cond b (marked (woken R old.slots old.rows differs clock t n c) (clock + (differing differs t n + 1))) (woken R old.slots old.rows differs clock t n c) ≡ held_at old.rows (t + 1) c
      by_mark true k rest = absurd (true≢false k)
      by_mark false k rest = rest k

  next_row : (m : ℕ) → from + m + 1 ≡ from + suc m
  next_row m = omega arith

  pub reached_state : (m c : ℕ) → (reached R old differs from m c).state ≡ (held_at old.rows (from + m) c).state
  reached_state zero c = let e : from ≡ from + 0 = omega arith in ap (λ t. (held_at old.rows t c).state) e
  reached_state (suc m) c = woken_state (clock_behind R old differs from m) (from + m) (R.components old.slots) c ∙ ap (λ t. (held_at old.rows t c).state) (next_row m)

  pub reached_settled : (m c : ℕ) → (reached R old differs from m c).is_due ≡ false → reached R old differs from m c ≡ held_at old.rows (from + m) c
  reached_settled zero c d = let e : from ≡ from + 0 = omega arith in ap (λ t. held_at old.rows t c) e
  reached_settled (suc m) c d = woken_settled (clock_behind R old differs from m) (from + m) (R.components old.slots) c d ∙ ap (λ t. held_at old.rows t c) (next_row m)

  -- the clock doesn't rise by more than the cells
  pub clock_le : (m : ℕ) → clock_behind R old differs from m ≤ old.clock + m * R.components old.slots
  clock_le zero = omega arith
  clock_le (suc m) = omega (arith, clock_le m, one_more m (R.components old.slots), differing_le differs (from + m) (R.components old.slots))

module _ {State Slots Slot : Type 0} (R : Rules State Slots Slot) (laws : Laws R) (old : Seen State Slots) (old_table : IsTable R old.slots old.horizon old.rows) (few : R.components old.slots < 4294967296) (first : Seen State Slots) (from n0 : ℕ) (begun : IsAt R first old from 0 n0) (last : ℕ) (differs : ℕ → ℕ → Bool) (tells : (t c : ℕ) → IsThere R old t c → from ≤ t → t < last → (differs t c ≡ false) ↔ ((held_at old.rows t c).state ≡ Some (run R old.slots t c))) (versionless : (t c : ℕ) → IsThere R old t c → (held_at old.rows t c).is_due ≡ false → (held_at old.rows t c).version ≡ 0) where
  abbrev C : ℕ
  C = R.components old.slots

  abbrev seen : List (List (Held State)) → ℕ → Seen State Slots
  seen rows clock = record { slots = old.slots; horizon = old.horizon; clock = clock; rows = rows }

  abbrev wakes : ℕ → ℕ → ℕ → Held State
  wakes m = woken R old.slots old.rows differs (clock_behind R old differs from m) (from + m)

  abbrev behind : ℕ → ℕ → Held State
  behind = reached R old differs from

  abbrev clocks : ℕ → ℕ → ℕ
  clocks m c = clock_behind R old differs from m + differing differs (from + m) c

  abbrev costs : ℕ → ℕ → ℕ
  costs m c = n0 + cost_of R old differs from m + costing R old differs from m c

  -- the table once the cells of m cycles were settled, and of the next cycle those of the first c components
  record At (m c : ℕ) : Type 0 where
    rows : List (List (Held State))
    table : IsTable R old.slots old.horizon rows
    is_at : IsAt R first (seen rows (clocks m c)) (from + m) c (costs m c)
    earlier : (u k : ℕ) → u < from → u ≤ old.horizon → k < C → held_at rows u k ≡ held_at old.rows u k
    passed : (u k : ℕ) → from ≤ u → u < from + m → u ≤ old.horizon → k < C → held_at rows u k ≡ stored (run R old.slots u k)
    done : (k : ℕ) → from + m ≤ old.horizon → k < c → k < C → held_at rows (from + m) k ≡ stored (run R old.slots (from + m) k)
    here : (k : ℕ) → from + m ≤ old.horizon → c ≤ k → k < C → held_at rows (from + m) k ≡ behind m k
    next : (k : ℕ) → from + m + 1 ≤ old.horizon → k < C → held_at rows (from + m + 1) k ≡ wakes m c k
    later : (u k : ℕ) → from + m + 1 < u → u ≤ old.horizon → k < C → held_at rows u k ≡ held_at old.rows u k

  -- one component more
  module _ (m c : ℕ) (at : At m c) (cycle : from + m ≤ old.horizon) (inside : from + m < last) (component : c < C) (room : clocks m c < 2 ^ 64 - 1) where
    abbrev t : ℕ
    t = from + m

    abbrev now : Seen State Slots
    now = seen at.rows (clocks m c)

    abbrev x : State
    x = run R old.slots t c

    abbrev b : Bool
    b = differs t c

    there : IsThere R now t c
    there = record { cycle = cycle; component = component }

    was_there : IsThere R old t c
    was_there = record { cycle = cycle; component = component }

    none_earlier : (u k : ℕ) → IsThere R now u k → u < t → (held_at at.rows u k).is_due ≡ false
    none_earlier u k here h = at.is_at.none_before u k here (omega (arith, h), λ e. absurd (omega (arith, h, e)))

    is_here : held_at at.rows t c ≡ behind m c
    is_here = at.here c cycle (omega arith) component

    same_state : (held_at at.rows t c).state ≡ (held_at old.rows t c).state
    same_state = ap (λ (r : Held State). r.state) is_here ∙ reached_state R old differs from m c

    told : (b ≡ false) ↔ ((held_at old.rows t c).state ≡ Some x)
    told = tells t c was_there (omega arith) inside

    clock_more : (changed : Bool) → differs t c ≡ changed → clocks m (c + 1) ≡ cond changed (clocks m c + 1) (clocks m c)
    clock_more changed e = let one : c + 1 ≡ suc c = omega arith in ap (clocks m) one ∙ by_change changed e
      where
        by_change : (changed : Bool) → differs t c ≡ changed → clock_behind R old differs from m + cond (differs t c) (differing differs t c + 1) (differing differs t c) ≡ cond changed (clocks m c + 1) (clocks m c)
        by_change true e = ap (λ k. clock_behind R old differs from m + k) (cond_true (differs t c) _ _ e) ∙ omega arith
        by_change false e = ap (λ k. clock_behind R old differs from m + k) (cond_false (differs t c) _ _ e)

    cost_more : (due : Bool) → (behind m c).is_due ≡ due → costs m (c + 1) ≡ cond due (costs m c + 1) (costs m c)
    cost_more due e = let one : c + 1 ≡ suc c = omega arith in ap (costs m) one ∙ by_due due e
      where
        by_due : (due : Bool) → (behind m c).is_due ≡ due → n0 + cost_of R old differs from m + cond (behind m c).is_due (costing R old differs from m c + 1) (costing R old differs from m c) ≡ cond due (costs m c + 1) (costs m c)
        by_due true e = ap (λ k. n0 + cost_of R old differs from m + k) (cond_true (behind m c).is_due _ _ e) ∙ omega arith
        by_due false e = ap (λ k. n0 + cost_of R old differs from m + k) (cond_false (behind m c).is_due _ _ e)

    wakes_more : (k : ℕ) → wakes m (c + 1) k ≡ cond (differs t c && has (R.near old.slots k) c) (marked (wakes m c k) (clock_behind R old differs from m + (differing differs t c + 1))) (wakes m c k)
    wakes_more k = let one : c + 1 ≡ suc c = omega arith in ap (λ n. wakes m n k) one

    not_here : (u k : ℕ) → (u ≡ t → k ≡ c → ⊥) → (eqb u t && eqb k c) ≡ false
    not_here u k f = by_cycle (cases_eq u t)
      where
        by_cycle : (u ≡ t) ⊎ (u ≡ t → ⊥) → (eqb u t && eqb k c) ≡ false
        by_cycle (inl e) = and_false_right (eqb u t) (eqb k c) (ne_eqb k c (f e))
        by_cycle (inr e) = and_false (eqb u t) (eqb k c) (ne_eqb u t e)

    -- a due cell is stored
    module _ (due : (behind m c).is_due ≡ true) where
      abbrev clock : ℕ
      clock = cond b (clocks m c + 1) (clocks m c)

      abbrev after : ℕ → ℕ → Held State
      after = held_after R old.slots at.rows t c x b clock

      abbrev rows1 : List (List (Held State))
      rows1 = built after (old.horizon + 1) C

      rows1_at : (u k : ℕ) → u ≤ old.horizon → k < C → held_at rows1 u k ≡ after u k
      rows1_at u k h l = built_at after (old.horizon + 1) C u k (omega (arith, h)) l

      current : IsCurrentState R old.slots at.rows t c x
      current =
          let there_inputs = is_ready R now laws at.table t c there (λ e m k. none_earlier (t - 1) m k (omega (arith, e))) in
          let is = current_of_inputs R old.slots at.rows t c there_inputs in
          subst (IsCurrentState R old.slots at.rows t c) (computes_run R laws now at.table t c there none_earlier (current_of R old.slots at.rows t c) is) is

      stores : IsAfterStore R now (seen rows1 clock) t c x b
      stores = record {
        changes = (λ e. same_state ∙ told.0 e, λ e. told.1 (sym same_state ∙ e));
        slots = refl;
        horizon = refl;
        clock = refl;
        cells = λ u k h. rows1_at u k h.cycle h.component;
      }

      abbrev cell : Cell
      cell = record { cycle = t; component = c }

      is_next : IsNextDue R now t c cell
      is_next = record {
        there = there;
        due = ap (λ (r : Held State). r.is_due) is_here ∙ due;
        after = (omega arith, λ e. omega arith);
        none_between = λ u k h a b. absurd (let e : u ≡ t = omega (arith, a.0, b.0) in let l = b.1 e in let m = a.1 (sym e) in omega (arith, l, m));
      }

      settles : SettlesNext R now (seen rows1 clock) t c cell
      settles = settles_as R laws now at.table t c at.is_at.none_before cell is_next (seen rows1 clock) x b refl stores (λ e. room)

      unmarked : (u k : ℕ) → (u ≡ t + 1 → ⊥) → (b && (eqb u (t + 1) && has (R.near old.slots k) c)) ≡ false
      unmarked u k f = and_false_right b _ (and_false (eqb u (t + 1)) _ (ne_eqb u (t + 1) f))

      kept : (u k : ℕ) → u ≤ old.horizon → k < C → (u ≡ t → k ≡ c → ⊥) → (u ≡ t + 1 → ⊥) → held_at rows1 u k ≡ held_at at.rows u k
      kept u k h l f g = rows1_at u k h l ∙ other_cell _ _ (held_at at.rows u k) x clock (not_here u k f) (unmarked u k g)

      table1 : IsTable R old.slots old.horizon rows1
      table1 =
          is_table_after R laws old.slots old.horizon at.rows rows1 at.table t c x b clock (λ e. same_state ∙ told.0 e) rows1_at current (length-map-range_with_len _ 0 (old.horizon + 1) ∙ sym at.table.whole.cycles) (λ u h. built_len after (old.horizon + 1) C u (omega (arith, h)))

      stored_one : At m (c + 1)
      stored_one = record {
        rows = rows1;
        table = table1;
        is_at = subst (λ n. IsAt R first (seen rows1 n) t (c + 1) (costs m (c + 1))) (sym (clock_more b refl)) (subst (IsAt R first (seen rows1 clock) t (c + 1)) (sym (cost_more true due)) (goes_on R first now (seen rows1 clock) t c (costs m c) cell at.is_at settles (omega (arith, component, few))));
        earlier = λ u k h l m. kept u k l m (λ e f. absurd (omega (arith, h, e))) (λ e. absurd (omega (arith, h, e))) ∙ at.earlier u k h l m;
        passed = λ u k h l m n. kept u k m n (λ e f. absurd (omega (arith, l, e))) (λ e. absurd (omega (arith, l, e))) ∙ at.passed u k h l m n;
        done = λ k h l m. stored_now k h l m (cases_eq k c);
        here = λ k h l m. kept t k h m (λ e f. absurd (omega (arith, l, f))) (λ e. absurd (omega (arith, e))) ∙ at.here k h (omega (arith, l)) m;
        next = λ k h m. marks_now k h m;
        later = λ u k h l m. kept u k l m (λ e f. absurd (omega (arith, h, e))) (λ e. absurd (omega (arith, h, e))) ∙ at.later u k h l m;
      }
        where
          stored_now : (k : ℕ) → t ≤ old.horizon → k < c + 1 → k < C → (k ≡ c) ⊎ (k ≡ c → ⊥) → held_at rows1 t k ≡ stored (run R old.slots t k)
          stored_now k h l n (inl e) =
              rows1_at t k h n
              ∙ own_cell (eqb t t && eqb k c) _ (held_at at.rows t k) x clock (ap (λ v. v && eqb k c) (eq-eqb t t refl) ∙ eq-eqb k c e)
              ∙ ap (λ d. stored (run R old.slots t d)) (sym e)
          stored_now k h l n (inr e) = kept t k h n (λ p q. e q) (λ p. absurd (omega (arith, p))) ∙ at.done k h (by_place (cases_lt k c)) n
            where
              by_place : (k < c) ⊎ (c ≤ k) → k < c
              by_place (inl p) = p
              by_place (inr p) = absurd (e (omega (arith, p, l)))

          version : b ≡ true → clock ≡ clock_behind R old differs from m + (differing differs t c + 1)
          version e = cond_true b (clocks m c + 1) (clocks m c) e ∙ omega arith

          marks_now : (k : ℕ) → t + 1 ≤ old.horizon → k < C → held_at rows1 (t + 1) k ≡ wakes m (c + 1) k
          marks_now k h n =
              rows1_at (t + 1) k h n
              ∙ next_cell _ _ (b && has (R.near old.slots k) c) (held_at at.rows (t + 1) k) x clock (clock_behind R old differs from m + (differing differs t c + 1)) (not_here (t + 1) k (λ e f. absurd (omega (arith, e)))) (ap (λ v. b && (v && has (R.near old.slots k) c)) (eq-eqb (t + 1) (t + 1) refl)) (λ e. version (left_of b _ e))
              ∙ ap (λ r. cond (b && has (R.near old.slots k) c) (marked r (clock_behind R old differs from m + (differing differs t c + 1))) r) (at.next k h n)
              ∙ sym (wakes_more k)
            where
              left_of : (p q : Bool) → (p && q) ≡ true → p ≡ true
              left_of true q e = refl
              left_of false q e = absurd (true≢false (sym e))

    -- a cell that isn't due is passed
    module _ (due : (behind m c).is_due ≡ false) where
      not_due : (held_at at.rows t c).is_due ≡ false
      not_due = ap (λ (r : Held State). r.is_due) is_here ∙ due

      holds : (held_at at.rows t c).state ≡ Some x
      holds = holds_run_at R laws now at.table t c there none_earlier not_due

      same : b ≡ false
      same = told.1 (sym same_state ∙ holds)

      as_was : behind m c ≡ held_at old.rows t c
      as_was = reached_settled R old differs from m c due

      is_stored : held_at at.rows t c ≡ stored x
      is_stored =
          settled_cell (held_at at.rows t c) x not_due holds (ap (λ (r : Held State). r.version) (is_here ∙ as_was) ∙ versionless t c was_there (ap (λ (r : Held State). r.is_due) (sym (is_here ∙ as_was)) ∙ not_due))

      abbrev along : IsAt R first now t c (costs m c)
      along = at.is_at

      by_cell : (P : ℕ → ℕ → Type 0) → P t c → ((u k : ℕ) → Before u k t c → P u k) → (u k : ℕ) → Before u k t (c + 1) → P u k
      by_cell P here before u k p = by_place (cases_eq u t) (cases_eq k c)
        where
          by_place : (u ≡ t) ⊎ (u ≡ t → ⊥) → (k ≡ c) ⊎ (k ≡ c → ⊥) → P u k
          by_place (inl e) (inl f) = subst (λ w. P w k) (sym e) (subst (P t) (sym f) here)
          by_place (inl e) (inr f) = before u k (p.0, λ q. (let l = p.1 e in by_number l f (cases_lt k c)))
            where
              by_number : k < c + 1 → (k ≡ c → ⊥) → (k < c) ⊎ (c ≤ k) → k < c
              by_number l f (inl i) = i
              by_number l f (inr i) = absurd (f (omega (arith, l, i)))
          by_place (inr e) f = before u k (p.0, λ q. absurd (e q))

      passed_at : IsAt R first now t (c + 1) (costs m c)
      passed_at = record {
        done = along.done;
        settling = settling_along R first now along.done t c t (c + 1) along.settling (omega arith, λ e. omega arith);
        number = along.number;
        none_before = λ u k h p. by_cell (λ u k. IsThere R now u k → (held_at at.rows u k).is_due ≡ false) (λ i. not_due) (λ u k q i. along.none_before u k i q) u k p h;
        runs_before = λ u k h p. by_cell (λ u k. IsThere R now u k → (held_at at.rows u k).state ≡ Some (run R old.slots u k)) (λ i. holds) (λ u k q i. along.runs_before u k i q) u k p h;
        few = omega (arith, along.few);
        fits = omega (arith, component, few);
        slots = along.slots;
        horizon = along.horizon;
        rises = along.rises;
        clock = along.clock;
      }

      passed_one : At m (c + 1)
      passed_one = record {
        rows = at.rows;
        table = at.table;
        is_at = subst (λ n. IsAt R first (seen at.rows n) t (c + 1) (costs m (c + 1))) (sym (clock_more false same)) (subst (IsAt R first now t (c + 1)) (sym (cost_more false due)) passed_at);
        earlier = at.earlier;
        passed = at.passed;
        done = λ k h l n. done_now k h l n (cases_lt k c);
        here = λ k h l n. at.here k h (omega (arith, l)) n;
        next = λ k h n. at.next k h n ∙ sym (cond_false (b && has (R.near old.slots k) c) _ (wakes m c k) (and_false b _ same)) ∙ sym (wakes_more k);
        later = at.later;
      }
        where
          done_now : (k : ℕ) → t ≤ old.horizon → k < c + 1 → k < C → (k < c) ⊎ (c ≤ k) → held_at at.rows t k ≡ stored (run R old.slots t k)
          done_now k h l n (inl p) = at.done k h p n
          done_now k h l n (inr p) = let e : c ≡ k = omega (arith, l, p) in subst (λ d. held_at at.rows t d ≡ stored (run R old.slots t d)) e is_stored

    one_further : At m (c + 1)
    one_further = by_due ((behind m c).is_due) refl
      where
        by_due : (d : Bool) → (behind m c).is_due ≡ d → At m (c + 1)
        by_due true e = stored_one e
        by_due false e = passed_one e

  components : (m : ℕ) → At m 0 → from + m ≤ old.horizon → from + m < last → (c : ℕ) → c ≤ C → clock_behind R old differs from m + C < 2 ^ 64 → At m c
  components m at cycle inside zero h room = at
  components m at cycle inside (suc c) h room =
      let e : c + 1 ≡ suc c = omega arith in
      subst (At m) e (one_further m c (components m at cycle inside c (omega (arith, h)) room) cycle inside (omega (arith, h)) (omega (arith, h, room, differing_le differs (from + m) c)))

  -- a whole cycle is settled
  one_cycle : (m : ℕ) → At m 0 → from + m ≤ old.horizon → from + m < last → clock_behind R old differs from m + C < 2 ^ 64 → At (suc m) 0
  one_cycle m at cycle inside room = record {
    rows = all.rows;
    table = all.table;
    is_at = subst (λ u. IsAt R first (seen all.rows (clocks (suc m) 0)) u 0 (costs (suc m) 0)) (next_row R old differs from m) (subst (λ n. IsAt R first (seen all.rows (clocks (suc m) 0)) (from + m + 1) 0 n) none_costs (subst (λ n. IsAt R first (seen all.rows n) (from + m + 1) 0 (costs m C)) none_more further));
    earlier = all.earlier;
    passed = λ u k h l i n. passed_now u k h l i n (cases_lt u (from + m));
    done = λ k h l n. absurd (omega (arith, l));
    here = λ k h l n. at_next (λ u. held_at all.rows u k ≡ behind (suc m) k) (all.next k (omega (arith, h)) n);
    next = λ k h n. (let e : from + suc m + 1 ≡ from + m + 1 + 1 = omega arith in all.later (from + suc m + 1) k (omega arith) h n);
    later = λ u k h l n. all.later u k (omega (arith, h)) l n;
  }
    where
      all : At m C
      all = components m at cycle inside C (omega arith) room

      along : IsAt R first (seen all.rows (clocks m C)) (from + m) C (costs m C)
      along = all.is_at

      none_more : clocks m C ≡ clocks (suc m) 0
      none_more = omega arith

      none_costs : costs m C ≡ costs (suc m) 0
      none_costs = omega arith

      at_next : (P : ℕ → Type 0) → P (from + m + 1) → P (from + suc m)
      at_next P p = subst P (next_row R old differs from m) p

      passed_before : (u k : ℕ) → IsThere R (seen all.rows (clocks m C)) u k → Before u k (from + m + 1) 0 → Before u k (from + m) C
      passed_before u k h p = by_cycle (cases_lt u (from + m + 1))
        where
          by_cycle : (u < from + m + 1) ⊎ (from + m + 1 ≤ u) → Before u k (from + m) C
          by_cycle (inl l) = (omega (arith, l), λ e. h.component)
          by_cycle (inr l) = let e : u ≡ from + m + 1 = omega (arith, p.0, l) in let bad = p.1 e in absurd (omega (arith, bad))

      further : IsAt R first (seen all.rows (clocks m C)) (from + m + 1) 0 (costs m C)
      further = record {
        done = along.done;
        settling = settling_along R first (seen all.rows (clocks m C)) along.done (from + m) C (from + m + 1) 0 along.settling (omega arith, λ e. absurd (omega (arith, e)));
        number = along.number;
        none_before = λ u k h p. along.none_before u k h (passed_before u k h p);
        runs_before = λ u k h p. along.runs_before u k h (passed_before u k h p);
        few = omega (arith, along.few, few);
        fits = omega arith;
        slots = along.slots;
        horizon = along.horizon;
        rises = along.rises;
        clock = along.clock;
      }

      passed_now : (u k : ℕ) → from ≤ u → u < from + suc m → u ≤ old.horizon → k < C → (u < from + m) ⊎ (from + m ≤ u) → held_at all.rows u k ≡ stored (run R old.slots u k)
      passed_now u k h l i n (inl p) = all.passed u k h p i n
      passed_now u k h l i n (inr p) = let e : from + m ≡ u = omega (arith, l, p) in subst (λ v. held_at all.rows v k ≡ stored (run R old.slots v k)) e (all.done k cycle n n)

  starts : At 0 0
  starts = record {
    rows = old.rows;
    table = old_table;
    is_at = subst (λ u. IsAt R first (seen old.rows (clocks 0 0)) u 0 (costs 0 0)) at_first (subst (λ n. IsAt R first (seen old.rows n) from 0 (costs 0 0)) no_clock (subst (IsAt R first old from 0) no_costs begun_here));
    earlier = λ u k h l m. refl;
    passed = λ u k h l m n. absurd (omega (arith, h, l));
    done = λ k h l m. absurd (omega (arith, l));
    here = λ k h l m. ap (λ u. held_at old.rows u k) (sym at_first);
    next = λ k h m. refl;
    later = λ u k h l m. refl;
  }
    where
      begun_here : IsAt R first old from 0 n0
      begun_here = begun

      at_first : from ≡ from + 0
      at_first = omega arith

      no_clock : old.clock ≡ clocks 0 0
      no_clock = omega arith

      no_costs : n0 ≡ costs 0 0
      no_costs = omega arith

  cycles : (m : ℕ) → from + m ≤ last → from + m ≤ old.horizon + 1 → old.clock + m * C < 2 ^ 64 → At m 0
  cycles zero inside h room = starts
  cycles (suc m) inside h room =
      one_cycle m (cycles m (omega (arith, inside)) (omega (arith, h)) (omega (arith, room, one_more m C))) (omega (arith, h)) (omega (arith, inside)) (omega (arith, room, one_more m C, clock_le R old differs from m))

  -- a table that was passed so
  module _ (m : ℕ) (new : Seen State Slots) (inside : from + m ≤ last) (is : IsPassed R old differs from new m) (whole : IsWhole R old.slots old.horizon new.rows) (room : old.clock + m * C < 2 ^ 64) where
    abbrev a : At m 0
    a = cycles m inside is.within room

    same_cells : (t c : ℕ) → t ≤ old.horizon → c < C → held_at new.rows t c ≡ held_at a.rows t c
    same_cells t c h k = by_cycle (cases_lt t from) (cases_lt t (from + m)) (cases_lt (from + m) t)
      where
        there : IsThere R old t c
        there = record { cycle = h; component = k }

        by_cycle : (t < from) ⊎ (from ≤ t) → (t < from + m) ⊎ (from + m ≤ t) → (from + m < t) ⊎ (t ≤ from + m) → held_at new.rows t c ≡ held_at a.rows t c
        by_cycle (inl p) q r = is.before t c there p ∙ sym (a.earlier t c p h k)
        by_cycle (inr p) (inl q) r = is.passed t c there p q ∙ sym (a.passed t c p q h k)
        by_cycle (inr p) (inr q) (inr r) =
            let e : t ≡ from + m = omega (arith, q, r) in
            is.behind t c there e ∙ sym (a.here c (omega (arith, h, e)) (omega arith) k) ∙ ap (λ u. held_at a.rows u c) (sym e)
        by_cycle (inr p) (inr q) (inl r) = is.later t c there r ∙ sym (behind_next (cases_lt (from + m + 1) t))
          where
            behind_next : (from + m + 1 < t) ⊎ (t ≤ from + m + 1) → held_at a.rows t c ≡ held_at old.rows t c
            behind_next (inl s) = a.later t c s h k
            behind_next (inr s) =
                let e : t ≡ from + m + 1 = omega (arith, r, s) in
                ap (λ u. held_at a.rows u c) e ∙ a.next c (omega (arith, h, e)) k ∙ ap (λ u. held_at old.rows u c) (sym e)

    same_rows : new.rows ≡ a.rows
    same_rows =
        is_built (λ t c. held_at a.rows t c) (old.horizon + 1) C new.rows whole.cycles (λ t h. whole.components t (omega (arith, h))) (λ t c h k. same_cells t c (omega (arith, h)) k)
        ∙ sym (is_built (λ t c. held_at a.rows t c) (old.horizon + 1) C a.rows a.table.whole.cycles (λ t h. a.table.whole.components t (omega (arith, h))) (λ t c h k. refl))

    same_table : seen a.rows (clocks m 0) ≡ new
    same_table =
        let clock : clocks m 0 ≡ new.clock = omega (arith, is.clock) in
        ap (λ rows. seen rows (clocks m 0)) (sym same_rows)
        ∙ ap (seen new.rows) clock
        ∙ ap (λ s. record { slots = s; horizon = old.horizon; clock = new.clock; rows = new.rows }) (sym is.slots)
        ∙ ap (λ h. record { slots = new.slots; horizon = h; clock = new.clock; rows = new.rows }) (sym is.horizon)

    -- the pass has come behind those cycles
    pub passed_at_end : IsAt R first new (from + m) 0 (n0 + cost_of R old differs from m)
    passed_at_end =
        let number : costs m 0 ≡ n0 + cost_of R old differs from m = omega arith in
        subst (λ n. IsAt R first new (from + m) 0 n) number (subst (λ v. IsAt R first v (from + m) 0 (costs m 0)) same_table a.is_at)

    -- and it is a table
    pub passed_table : IsTable R old.slots old.horizon new.rows
    passed_table = subst (IsTable R old.slots old.horizon) (sym same_rows) a.table
