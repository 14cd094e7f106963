-- The counters count the states that are held, and these are the run's.
use Rattle.std.proofs.Common.{◌≡◌, ℕ, ◌+◌, ◌<◌, ◌≤◌, ◌∙◌, sym, ap, subst, refl, arith, Bool, true, false, cond, Option, None, Some, List, [], ◌∷◌, map}
use Rattle.std.specs.Prelude.{nat_lt, nat_le, ◌&&◌, ◌==◌, is_some}
use Rattle.std.specs.Option.{ForSome, IfSome}
use Rattle.std.proofs.lemmas.Bool.{eqb-true, and_parts}
use Rattle.std.proofs.lemmas.Bool.Decides.{nat_tests}
use Rattle.omega_net.specs.Numbers.{components}
use Rattle.omega_net.specs.Wires.{below}
use Rattle.omega_net.specs.declared.component.Net.{Net}
use Rattle.due_cells.specs.Seen.{Held, Seen, held_at, fresh, marked}
use Rattle.cell_states.specs.Near.{has}
use Rattle.cell_table.specs.Cells.{IsThere}
use Rattle.cell_table.specs.Gives.{IsAfterStore, HoldsSame}
use Rattle.cell_table.specs.Touches.{cell_reads, IsAfterTouch}
use Rattle.machine_cells.specs.declared.state.MachineState.{MachineState}
use Rattle.machine_cells.specs.GridRules.{rp3_rules}
use Rattle.machine_cells.specs.Run.{run}
use Rattle.machine_cells.specs.Runs.{state_in}
use Rattle.monitor_sums.specs.declared.counter.Counter.{Counter}
use Rattle.monitor_sums.specs.Counts.{count, counted, output_lengths}
use Rattle.monitor_sums.specs.Kept.{Kept, StandsFor}
use Rattle.monitor_sums.specs.Sums.{States, sum_of, in_profile, pairs_of, profile_of, changed, cleared, NonePast}
use Rattle.project_book.specs.Project.{Project}
use Rattle.project_book.specs.Edits.{edited}
use Rattle.project_book.specs.declared.edit.Edit.{Edit}
use Rattle.project_book.specs.declared.edit.Edit.TheVariants.{Entry, Cut, Word, Page, Depth, WaitDepth, Combine, Window, Horizon}
use Rattle.project_book.specs.declared.slot.Slot.{Slot}
use Rattle.bench_core.specs.Shown.{Shown, IsBench, last_counted, IsCounted, AreCounted, project_of, held, present}
use Rattle.bench_core.specs.Asks.{HoldsRunTo}
use Rattle.monitor_sums.proofs.Over.{same_over}
use Rattle.bench_core.proofs.Looking.{run_held}

-- no edit changes which cycle is the last that is counted
pub last_edited : (P : Project) (e : Edit) → last_counted (edited P e) ≡ last_counted P
last_edited P (Entry proc index entry) = refl
last_edited P (Cut proc length) = refl
last_edited P (Word address word) = refl
last_edited P (Page page amount base) = refl
last_edited P (Depth queue depth) = refl
last_edited P (WaitDepth depth) = refl
last_edited P (Combine stage on) = refl
last_edited P (Window window) = refl
last_edited P (Horizon horizon) = refl

-- equal projects with equal horizons keep within the cycles that are counted
pub short_still : (old new : Seen MachineState Project) → new.slots ≡ old.slots → new.horizon ≡ old.horizon
    → old.horizon ≤ last_counted old.slots → new.horizon ≤ last_counted new.slots
short_still old new slots horizon short = subst (λ (P : Project). new.horizon ≤ last_counted P) (sym slots) (subst (λ h. h ≤ last_counted old.slots) (sym horizon) short)

-- counters, where there are any, count the cycles up to the horizon
pub counted_to : (sums : Option Kept) (v : Seen MachineState Project) (to : ℕ) → AreCounted sums v → v.horizon ≤ last_counted v.slots → to ≡ v.horizon
    → IfSome sums (λ s. to ≤ s.last)
counted_to None v to counts short is = tt
counted_to (Some sums) v to counts short is = omega (arith, short, is, counts.last)

-- a cell up to the horizon is present with what it holds; one past it with nothing
pub present_at : (v : Seen MachineState Project) (t c : ℕ) → t ≤ v.horizon → present v t c ≡ held v t c
present_at v t c le = grind (arith, nat_tests)

pub present_past : (v : Seen MachineState Project) (t c : ℕ) → v.horizon < t → present v t c ≡ None
present_past v t c lt = grind (arith, nat_tests)

-- counters that stand for a map stand for one that is the same at each cell
pub stands_along : (sums : Kept) (at other : States) → StandsFor sums at
    → ((t c : ℕ) → t ≤ sums.last → c < components sums.k → at t c ≡ other t c) → StandsFor sums other
stands_along sums at other stands same t c le lt = stands t c le lt ∙ ap counted (same t c le lt)

-- where no cycle is past the horizon, nothing is cleared
pub none_cleared : (sums : Kept) (to before : ℕ) → before ≤ to → (at : States) → StandsFor sums at → StandsFor sums (cleared at (to + 1) before)
none_cleared sums to before le at stands = stands_along sums at (cleared at (to + 1) before) stands (λ t c l lt. grind (arith, nat_tests))

-- counters count a table where they stand for what its cells hold, and for nothing past its horizon
pub counts_held : (sums : Kept) (at : States) (v : Seen MachineState Project) → sums.k ≡ v.slots.k → sums.last ≡ last_counted v.slots → StandsFor sums at
    → ((t c : ℕ) → IsThere rp3_rules v t c → at t c ≡ held v t c) → ((t c : ℕ) → v.horizon < t → at t c ≡ None) → IsCounted sums v
counts_held sums at v shape last stands there past = record {
  shape = shape;
  last = last;
  counts = stands_along sums at (present v) stands (λ t c le lt. by_place t c (subst (λ k. c < components k) shape lt) (nat_le t v.horizon) refl);
}
  where
    by_place : (t c : ℕ) → c < components v.slots.k → (x : Bool) → nat_le t v.horizon ≡ x → at t c ≡ cond x (held v t c) None
    by_place t c lt true e = there t c (record { cycle = grind (arith, nat_tests); component = lt })
    by_place t c lt false e = past t c (grind (arith, nat_tests))

-- where no state changes, they go on counting what is held
pub counted_kept : (sums : Kept) (old new : Seen MachineState Project) → IsCounted sums old → HoldsSame rp3_rules old new → IsCounted sums new
counted_kept sums old new counts same =
    counts_held sums (present old) new (counts.shape ∙ ap (λ (P : Project). P.k) (sym same.slots)) (counts.last ∙ ap last_counted (sym same.slots)) counts.counts
    (λ t c there.
    let was : IsThere rp3_rules old t c = record { cycle = omega (arith, there.cycle, same.horizon); component = rw same.slots at there.component } in
    present_at old t c was.cycle ∙ sym (same.states t c was))
    (λ t c past. present_past old t c (omega (arith, past, same.horizon)))

-- the same, where there may be none yet
pub are_kept : (sums : Option Kept) (old new : Seen MachineState Project) → AreCounted sums old → HoldsSame rp3_rules old new → AreCounted sums new
are_kept None old new counts same = tt
are_kept (Some sums) old new counts same = counted_kept sums old new counts same

module _ (sums next : Kept) (old new : Seen MachineState Project) (counts : IsCounted sums old) (shape : next.k ≡ sums.k) (last : next.last ≡ sums.last) where
  -- a store
  pub counted_stored : (t c : ℕ) (x : MachineState) (moved : Bool) → IsThere rp3_rules old t c → IsAfterStore rp3_rules old new t c x moved
      → ((at : States) → StandsFor sums at → StandsFor next (changed at t c (held new t c))) → IsCounted next new
  counted_stored t c x moved there after changes =
      counts_held next (changed (present old) t c (held new t c)) new (shape ∙ counts.shape ∙ ap (λ (P : Project). P.k) (sym after.slots)) (last ∙ counts.last ∙ ap last_counted (sym after.slots)) (changes (present old) counts.counts)
      (λ u d new_there. by_cell u d (record { cycle = omega (arith, new_there.cycle, after.horizon); component = rw after.slots at new_there.component }) ((u == t) && (d == c)) refl)
      (λ u d past. behind u d (omega (arith, past, after.horizon)))
    where
      marked_state : (h : Held MachineState) (y : Bool) → (cond y (marked h new.clock) h).state ≡ h.state
      marked_state h true = refl
      marked_state h false = refl

      by_cell : (u d : ℕ) → IsThere rp3_rules old u d → (y : Bool) → ((u == t) && (d == c)) ≡ y → cond y (held new t c) (present old u d) ≡ held new u d
      by_cell u d was true e =
          let time : t ≡ u = sym (eqb-true u t (and_parts _ _ e).0) in
          let place : c ≡ d = sym (eqb-true d c (and_parts _ _ e).1) in
          ap (λ i. held new i c) time ∙ ap (held new u) place
      by_cell u d was false e =
          present_at old u d was.cycle
          ∙ sym (ap (λ (h : Held MachineState). h.state) (rw e at (after.cells u d was)) ∙ marked_state (held_at old.rows u d) (moved && ((u == t + 1) && has (rp3_rules.near old.slots d) c)))

      behind : (u d : ℕ) → old.horizon < u → changed (present old) t c (held new t c) u d ≡ None
      behind u d past = let was = there.cycle in grind (arith, nat_tests, present_past old u d)

  -- an edit that keeps the machine's size
  pub counted_touched : (to : ℕ) (P : Project) (listed : List Slot) → P.k ≡ old.slots.k → last_counted P ≡ last_counted old.slots → IsAfterTouch rp3_rules old new P listed to
      → ((at : States) → StandsFor sums at → StandsFor next (cleared at (new.horizon + 1) old.horizon)) → IsCounted next new
  counted_touched to P listed size same_last after clears =
      counts_held next (cleared (present old) (new.horizon + 1) old.horizon) new (shape ∙ counts.shape ∙ sym size ∙ ap (λ (Q : Project). Q.k) (sym after.slots)) (last ∙ counts.last ∙ sym same_last ∙ ap last_counted (sym after.slots)) (clears (present old) counts.counts)
      (λ u d there. stays u d there.cycle ∙ sym (ap (λ (h : Held MachineState). h.state) (after.cells u d there) ∙ touched u d (nat_lt old.horizon u) (cell_reads rp3_rules old.slots old.rows listed u d) refl))
      behind
    where
      stays : (u d : ℕ) → u ≤ new.horizon → cleared (present old) (new.horizon + 1) old.horizon u d ≡ present old u d
      stays u d le = grind (arith, nat_tests)

      touched : (u d : ℕ) (x y : Bool) → nat_lt old.horizon u ≡ x
          → (cond x (fresh (old.clock + 1)) (cond y (marked (held_at old.rows u d) (old.clock + 1)) (held_at old.rows u d))).state ≡ present old u d
      touched u d true y e = sym (present_past old u d (grind (arith, nat_tests)))
      touched u d false true e = sym (present_at old u d (grind (arith, nat_tests)))
      touched u d false false e = sym (present_at old u d (grind (arith, nat_tests)))

      behind : (u d : ℕ) → new.horizon < u → cleared (present old) (new.horizon + 1) old.horizon u d ≡ None
      behind u d past = grind (arith, nat_tests, present_past old u d)

-- the same, where there may be none yet
pub are_touched : (sums next : Option Kept) (old new : Seen MachineState Project) → AreCounted sums old → is_some next ≡ is_some sums → IfSome sums (λ s. IfSome next (λ n. n.k ≡ s.k)) → IfSome sums (λ s. IfSome next (λ n. n.last ≡ s.last))
    → (to : ℕ) (P : Project) (listed : List Slot) → P.k ≡ old.slots.k → last_counted P ≡ last_counted old.slots → IsAfterTouch rp3_rules old new P listed to
    → IfSome sums (λ s. IfSome next (λ n. (at : States) → StandsFor s at → StandsFor n (cleared at (new.horizon + 1) old.horizon))) → AreCounted next new
are_touched sums None old new counts there shape last to P listed size same_last after clears = tt
are_touched None (Some next) old new counts there shape last to P listed size same_last after clears = absurd (cc there)
are_touched (Some sums) (Some next) old new counts there shape last to P listed size same_last after clears = counted_touched sums next old new counts shape last to P listed size same_last after clears

-- where the cells hold the run, the counters are those of the run
module _ (b : Shown) (sums : Kept) (bench : IsBench b.table b.journal) (counts : IsCounted sums b.table) where
  present_run : (end t c : ℕ) → HoldsRunTo b end → end ≤ (project_of b).horizon → t ≤ end → c < components (project_of b).k → present b.table t c ≡ state_in (run (project_of b)) t c
  present_run end t c ready within le lt = present_at b.table t c (omega (arith, bench.horizon)) ∙ run_held b end t c ready le (omega arith) lt

  pub horizon_counted : (project_of b).horizon ≤ sums.last
  horizon_counted = omega (arith, bench.horizon, bench.short, counts.last)

  pub none_past : NonePast sums.k (present b.table) (project_of b).horizon sums.last
  none_past t c past le lt = present_past b.table t c (omega (arith, bench.horizon))

  pub sum_is_run : (counter : Counter) (who : Option ℕ) (from to n : ℕ) → ForSome who (λ c. c < components (project_of b).k) → to ≤ (project_of b).horizon → HoldsRunTo b to
      → n ≡ sum_of sums.k counter (present b.table) who from to → n ≡ sum_of (project_of b).k counter (state_in (run (project_of b))) who from to
  sum_is_run counter who from to n asked within ready is =
      is
      ∙ ap (λ k. sum_of k counter (present b.table) who from to) counts.shape
      ∙ same_over (project_of b).k (λ t c. count counter (present b.table t c)) (λ t c. count counter (state_in (run (project_of b)) t c)) who from to asked
      (λ t c le lt. ap (count counter) (present_run to t c ready within le lt))

  pub profile_is_run : (net : Net) (stage : ℕ) (ns : List ℕ) → HoldsRunTo b (project_of b).horizon
      → ns ≡ profile_of sums.k (present b.table) net stage (project_of b).horizon → ns ≡ profile_of (project_of b).k (state_in (run (project_of b))) net stage (project_of b).horizon
  unfolding profile_of
  profile_is_run net stage ns ready is =
      is
      ∙ ap (λ k. profile_of k (present b.table) net stage (project_of b).horizon) counts.shape
      ∙ each (below 17)
    where
      pairs : (n : ℕ) → pairs_of (project_of b).k (present b.table) net stage (project_of b).horizon n ≡ pairs_of (project_of b).k (state_in (run (project_of b))) net stage (project_of b).horizon n
      pairs n =
          same_over (project_of b).k (λ t c. in_profile (project_of b).k net stage n c (output_lengths (present b.table t c))) (λ t c. in_profile (project_of b).k net stage n c (output_lengths (state_in (run (project_of b)) t c))) None 0 (project_of b).horizon (λ c e. cc)
          (λ t c le lt. ap (λ s. in_profile (project_of b).k net stage n c (output_lengths s)) (present_run (project_of b).horizon t c ready (omega arith) le lt))

      each : (ms : List ℕ) → map (pairs_of (project_of b).k (present b.table) net stage (project_of b).horizon) ms ≡ map (pairs_of (project_of b).k (state_in (run (project_of b))) net stage (project_of b).horizon) ms
      each [] = refl
      each (m ∷ ms) = rw (pairs m, each ms) refl
