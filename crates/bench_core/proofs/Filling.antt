-- The counters of a table where many cells were filled together.
use Rattle.std.proofs.Common.{◌≡◌, ℕ, ◌+◌, ◌<◌, ◌≤◌, ◌∙◌, ◌||◌, refl, sym, ap, arith, cond, Bool, true, false, Option, None, List, length, take, get_or, All}
use Rattle.std.proofs.lemmas.Bool.Decides.{nat_tests}
use Rattle.std.proofs.lemmas.List.Elements.{All-weaker}
use Rattle.std.proofs.lemmas.List.Folds.{list_any_none, list_any_more}
use Rattle.omega_net.specs.Numbers.{components}
use Rattle.due_cells.specs.Seen.{Seen}
use Rattle.cell_table.specs.Cells.{IsThere}
use Rattle.cell_table.specs.Passing.{HoldsBut}
use Rattle.due_cells.specs.Ranges.{covers, is_marked, IsWithin}
use Rattle.cell_states.specs.declared.cell.CellRange.{CellRange}
use Rattle.machine_cells.specs.declared.state.MachineState.{MachineState}
use Rattle.machine_cells.specs.GridRules.{rp3_rules}
use Rattle.monitor_sums.specs.Kept.{Kept, StandsFor}
use Rattle.monitor_sums.specs.Sums.{States, filled}
use Rattle.project_book.specs.Project.{Project}
use Rattle.bench_core.specs.Shown.{last_counted, IsCounted, held, present}
use Rattle.bench_core.specs.Filling.{filled_in, filled_to, filled_over}
use Rattle.bench_core.proofs.Counting.{stands_along, counts_held, present_at, present_past}

-- of one cell: cycles more of its component, then one component more
module _ (at states : States) (from u d : ℕ) where
  cycles_more : (c t end : ℕ) (s : Option MachineState) → from ≤ t → t ≤ end → (t ≤ u → u < end → states u c ≡ s) → filled (filled_in at states c from t) c t end s u d ≡ filled_in at states c from end u d
  cycles_more c t end s after some same = grind (arith, nat_tests)

  component_more : (n to : ℕ) → filled_in (filled_to at states n from to) states n from to u d ≡ filled_to at states (n + 1) from to u d
  component_more n to = grind (arith, nat_tests)

-- cycles more, with the same state
pub stands_more : (sums next : Kept) (at states : States) (c from t end : ℕ) (s : Option MachineState) → from ≤ t → t ≤ end → StandsFor sums (filled_in at states c from t)
    → ((u : ℕ) → t ≤ u → u < end → states u c ≡ s) → ((other : States) → StandsFor sums other → StandsFor next (filled other c t end s)) → StandsFor next (filled_in at states c from end)
stands_more sums next at states c from t end s after some stands same fills =
    stands_along next (filled (filled_in at states c from t) c t end s) (filled_in at states c from end) (fills (filled_in at states c from t) stands)
    (λ u d le lt. cycles_more at states from u d c t end s after some (same u))

-- one component more
pub stands_component : (sums next : Kept) (at states : States) (n from to : ℕ) → StandsFor sums (filled_to at states n from to)
    → ((other : States) → StandsFor sums other → StandsFor next (filled_in other states n from to)) → StandsFor next (filled_to at states (n + 1) from to)
stands_component sums next at states n from to stands fills =
    stands_along next (filled_in (filled_to at states n from to) states n from to) (filled_to at states (n + 1) from to) (fills (filled_to at states n from to) stands)
    (λ u d le lt. component_more at states from u d n to)

pub stands_none : (sums : Kept) (at states : States) (c from : ℕ) → StandsFor sums at → StandsFor sums (filled_in at states c from from)
stands_none sums at states c from stands = stands_along sums at (filled_in at states c from from) stands (λ u d le lt. grind (arith, nat_tests))

pub stands_start : (sums : Kept) (at states : States) (from to : ℕ) → StandsFor sums at → StandsFor sums (filled_to at states 0 from to)
stands_start sums at states from to stands = stands_along sums at (filled_to at states 0 from to) stands (λ u d le lt. grind (arith, nat_tests))

-- counters that counted nothing count a table, once all components were counted up to its horizon
pub counted_whole : (sums : Kept) (v : Seen MachineState Project) (n end : ℕ) → sums.k ≡ v.slots.k → sums.last ≡ last_counted v.slots → n ≡ components v.slots.k → end ≡ v.horizon + 1
    → StandsFor sums (filled_to (λ t c. None) (held v) n 0 end) → IsCounted sums v
counted_whole sums v n end shape last_is all last stands =
    counts_held sums (filled_to (λ t c. None) (held v) n 0 end) v shape last_is stands
    (λ u d there. let cycle = there.cycle in let lt : d < n = rw all there.component in grind (arith, nat_tests))
    (λ u d past. grind (arith, nat_tests))

-- one range more
pub stands_range : (sums next : Kept) (at states : States) (ranges : List CellRange) (i : ℕ) (d : CellRange) → i < length ranges → StandsFor sums (filled_over at states (take i ranges))
    → ((other : States) → StandsFor sums other → StandsFor next (filled_in other states (get_or ranges i d).component (get_or ranges i d).from (get_or ranges i d).to)) → StandsFor next (filled_over at states (take (i + 1) ranges))
stands_range sums next at states ranges i d lt stands fills =
    let range = get_or ranges i d in
    stands_along next (filled_in (filled_over at states (take i ranges)) states range.component range.from range.to) (filled_over at states (take (i + 1) ranges)) (fills (filled_over at states (take i ranges)) stands)
    (λ u c le less. by_marks u c (is_marked (take i ranges) u c) (covers range u c) ∙ ap (λ b. cond b (states u c) (at u c)) (sym (list_any_more (λ r. covers r u c) ranges i d lt)))
  where
    by_marks : (u c : ℕ) (x y : Bool) → cond y (states u c) (cond x (states u c) (at u c)) ≡ cond (x || y) (states u c) (at u c)
    by_marks u c true true = refl
    by_marks u c true false = refl
    by_marks u c false true = refl
    by_marks u c false false = refl

-- no range has cells past the cycles that it lies within
unmarked : (n count u d : ℕ) (ranges : List CellRange) → n ≤ u → All (IsWithin n count) ranges → is_marked ranges u d ≡ false
unmarked n count u d ranges past within = list_any_none (λ r. covers r u d) ranges (All-weaker (IsWithin n count) (λ r. covers r u d ≡ false) (λ r is. uncovered r is.1) ranges within)
  where
    uncovered : (r : CellRange) → r.to ≤ n → covers r u d ≡ false
    uncovered r le = grind (arith, nat_tests)

-- counters of the table before count the one after, once all cells of the ranges were counted
pub counted_refilled : (sums next : Kept) (old new : Seen MachineState Project) (ranges : List CellRange) → IsCounted sums old → HoldsBut rp3_rules old new ranges → next.k ≡ sums.k → next.last ≡ sums.last
    → StandsFor next (filled_over (present old) (held new) ranges) → IsCounted next new
counted_refilled sums next old new ranges counts is shape last stands =
    counts_held next (filled_over (present old) (held new) ranges) new (shape ∙ counts.shape ∙ ap (λ (P : Project). P.k) (sym is.slots)) (last ∙ counts.last ∙ ap last_counted (sym is.slots)) stands
    (λ u d there. by_mark u d (record { cycle = omega (arith, there.cycle, is.horizon); component = rw is.slots at there.component }) (is_marked ranges u d) refl)
    (λ u d past. behind u d (omega (arith, past, is.horizon)))
  where
    by_mark : (u d : ℕ) → IsThere rp3_rules old u d → (x : Bool) → is_marked ranges u d ≡ x → cond x (held new u d) (present old u d) ≡ held new u d
    by_mark u d was true e = refl
    by_mark u d was false e = present_at old u d was.cycle ∙ sym (is.others u d was e)

    behind : (u d : ℕ) → old.horizon < u → filled_over (present old) (held new) ranges u d ≡ None
    behind u d past = rw (unmarked (old.horizon + 1) (rp3_rules.components old.slots) u d ranges (omega (arith, past)) is.within) (present_past old u d past)
