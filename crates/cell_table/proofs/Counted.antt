-- Due cells counted row by row, cell by cell, and by the events.
use Rattle.std.proofs.Common.{◌≡◌, ℕ, zero, suc, ◌+◌, ◌<◌, ◌≤◌, ◌∙◌, sym, ap, subst, refl, arith, Bool, true, false, cond, ◌&&◌, ◌==◌, ◌⊎◌, inl, inr, List, [], length, take, count_by, Some, Result, Ok, Err, IfOk}
use Rattle.std.specs.Prelude.{min, nat_le, nat_lt}
use Rattle.std.specs.List.{range_with_len}
use Rattle.std.proofs.Math.Nat.{min-le_left, min-le_right, le-min, min-eq_left, min-eq_right}
use Rattle.std.proofs.lemmas.Bool.{cases_lt}
use Rattle.std.proofs.lemmas.Bool.Decides.{nat_tests}
use Rattle.std.proofs.lemmas.List.{take_all}
use Rattle.std.proofs.lemmas.List.Sums.{sum_by_more}
use Rattle.grid_law.specs.Rules.{Rules, Laws}
use Rattle.grid_law.specs.Run.{run}
use Rattle.due_cells.specs.Seen.{Held, Seen, nothing, held_in, held_at, row_at, due_at, due_in_row, due_up_to}
use Rattle.cell_table.specs.Cells.{IsThere}
use Rattle.cell_table.specs.Consistent.{IsWhole, IsTable}
use Rattle.due_cells.specs.Cones.{earlier, count_below, count_to, count_in, count_cone}
use Rattle.cell_table.specs.Events.{Event, Start, slots_of, horizon_of}
use Rattle.cell_table.specs.Due.{due}
use Rattle.cell_table.specs.Stands.{Stands}
use Rattle.due_cells.proofs.Cones.{count_more, count_same}
use Rattle.cell_table.proofs.ConeRuns.{none_counted}
use Rattle.cell_table.proofs.Runs.{holds_run_at}

-- the due cells of a row, one component after another
row_upto : {State : Type 0} (row : List (Held State)) (n : ℕ) → n ≤ length row → count_by (λ (k : Held State). k.is_due) (take n row) ≡ count_by (λ c. (held_in row c).is_due) (range_with_len 0 n)
row_upto row zero h = refl
row_upto {State} row (suc n) h =
    let e : n + 1 ≡ suc n = omega arith in
    let more = sum_by_more (λ (k : Held State). cond k.is_due 1 0) row n nothing (omega arith) in
    subst (λ m. count_by (λ (k : Held State). k.is_due) (take m row) ≡ count_by (λ c. (held_in row c).is_due) (range_with_len 0 m)) e
    (more ∙ ap (λ m. m + cond (held_in row n).is_due 1 0) (row_upto row n (omega arith)) ∙ sym (count_more (λ c. (held_in row c).is_due) n))

whole_row : {State : Type 0} (row : List (Held State)) (n : ℕ) → length row ≡ n → due_in_row row ≡ count_by (λ c. (held_in row c).is_due) (range_with_len 0 n)
whole_row row n e = ap due_in_row (sym (take_all n row (omega (arith, e)))) ∙ row_upto row n (omega (arith, e))

module _ {State Slots Slot : Type 0} (R : Rules State Slots Slot) (s : Slots) where
  rows_upto : (horizon : ℕ) (rows : List (List (Held State))) → IsWhole R s horizon rows → (t : ℕ) → t ≤ horizon → due_up_to rows (t + 1) ≡ count_below R s (due_at rows) t
  rows_upto horizon rows whole zero h =
      let here = whole_row (row_at rows 0) (R.components s) (whole.components 0 h) in
      sum_by_more due_in_row rows 0 [] (omega (arith, whole.cycles)) ∙ omega (arith, here)
  rows_upto horizon rows whole (suc t) h =
      let e : t + 1 ≡ suc t = omega arith in
      let here = whole_row (row_at rows (suc t)) (R.components s) (whole.components (suc t) h) in
      let below : due_up_to rows (suc t) ≡ count_below R s (due_at rows) t = subst (λ m. due_up_to rows m ≡ count_below R s (due_at rows) t) e (rows_upto horizon rows whole t (omega arith)) in
      sum_by_more due_in_row rows (suc t) [] (omega (arith, whole.cycles, h)) ∙ omega (arith, here, below)

  -- the rows count the due cells that are there
  pub due_counted : (horizon : ℕ) (rows : List (List (Held State))) → IsWhole R s horizon rows → (t : ℕ) → due_up_to rows (t + 1) ≡ count_to R s horizon (due_at rows) t
  due_counted horizon rows whole t = by_cycle (cases_lt horizon t)
    where
      all : (m : ℕ) → length rows ≤ m → due_up_to rows m ≡ due_up_to rows (horizon + 1)
      all m le =
          let whole_list : take (horizon + 1) rows ≡ rows = take_all (horizon + 1) rows (omega (arith, whole.cycles)) in
          rw (take_all m rows le, whole_list) refl

      by_cycle : (horizon < t) ⊎ (t ≤ horizon) → due_up_to rows (t + 1) ≡ count_to R s horizon (due_at rows) t
      by_cycle (inl past) =
          let last : min t horizon ≡ horizon = min-eq_right (omega arith) in
          all (t + 1) (omega (arith, whole.cycles)) ∙ rows_upto horizon rows whole horizon (omega arith) ∙ ap (count_below R s (due_at rows)) (sym last)
      by_cycle (inr within) =
          let first : min t horizon ≡ t = min-eq_left within in
          rows_upto horizon rows whole t within ∙ ap (count_below R s (due_at rows)) (sym first)

-- tests that are the same for each cell that is there
module _ {State Slots Slot : Type 0} (R : Rules State Slots Slot) (s : Slots) (horizon : ℕ) (f g : ℕ → ℕ → Bool) (same : (t c : ℕ) → t ≤ horizon → c < R.components s → f t c ≡ g t c) where
  below_same : (t : ℕ) → t ≤ horizon → count_below R s f t ≡ count_below R s g t
  below_same zero h = count_same (f 0) (g 0) 0 (R.components s) (λ k l. same 0 k h (omega arith))
  below_same (suc t) h =
      let here = count_same (f (suc t)) (g (suc t)) 0 (R.components s) (λ k l. same (suc t) k h (omega arith)) in
      let below = below_same t (omega arith) in
      omega (arith, here, below)

  in_same : (members : ℕ → Bool) (t : ℕ) → t ≤ horizon → count_in R s f members t ≡ count_in R s g members t
  in_same members zero h = count_same (λ c. members c && f 0 c) (λ c. members c && g 0 c) 0 (R.components s) (λ k l. ap (λ b. members k && b) (same 0 k h (omega arith)))
  in_same members (suc t) h =
      let here = count_same (λ c. members c && f (suc t) c) (λ c. members c && g (suc t) c) 0 (R.components s) (λ k l. ap (λ b. members k && b) (same (suc t) k h (omega arith))) in
      let below = in_same (earlier R s members) t (omega arith) in
      omega (arith, here, below)

  pub count_to_same : (t : ℕ) → count_to R s horizon f t ≡ count_to R s horizon g t
  count_to_same t = below_same (min t horizon) (min-le_right t horizon)

  pub count_cone_same : (t c : ℕ) → count_cone R s horizon f t c ≡ count_cone R s horizon g t c
  count_cone_same t c = by_test (nat_le t horizon) (nat_lt c (R.components s)) refl
    where
      by_test : (x y : Bool) → nat_le t horizon ≡ x → cond (x && y) (count_in R s f (λ m. m == c) t) 0 ≡ cond (x && y) (count_in R s g (λ m. m == c) t) 0
      by_test false y e = refl
      by_test true false e = refl
      by_test true true e = in_same (λ m. m == c) t (grind (arith, nat_tests))

-- tests that are the same up to a cycle count the same of the cells up to it
module _ {State Slots Slot : Type 0} (R : Rules State Slots Slot) (s : Slots) (horizon last : ℕ) (f g : ℕ → ℕ → Bool) (same : (t c : ℕ) → t ≤ last → f t c ≡ g t c) where
  pub count_to_last : (t : ℕ) → t ≤ last → count_to R s horizon f t ≡ count_to R s horizon g t
  count_to_last t h =
      let few : min t horizon ≤ t = min-le_left t horizon in
      below_same R s (min t horizon) f g (λ u c k l. same u c (omega (arith, k, few, h))) (min t horizon) (omega arith)

  pub count_cone_last : (t c : ℕ) → t ≤ last → count_cone R s horizon f t c ≡ count_cone R s horizon g t c
  count_cone_last t c h =
      let here : count_in R s f (λ m. m == c) t ≡ count_in R s g (λ m. m == c) t = in_same R s t f g (λ u d k l. same u d (omega (arith, k, h))) (λ m. m == c) t (omega arith) in
      ap (λ n. cond (nat_le t horizon && nat_lt c (R.components s)) n 0) here

-- where no cell passes, none is counted
abbrev never : ℕ → ℕ → Bool
never t c = false

module _ {State Slots Slot : Type 0} (R : Rules State Slots Slot) (s : Slots) where
  none_by : (p : ℕ → Bool) → ((c : ℕ) → p c ≡ false) → (n : ℕ) → count_by p (range_with_len 0 n) ≡ 0
  none_by p h zero = refl
  none_by p h (suc n) =
      let e : n + 1 ≡ suc n = omega arith in
      subst (λ m. count_by p (range_with_len 0 m) ≡ 0) e (count_more p n ∙ ap (λ b. count_by p (range_with_len 0 n) + cond b 1 0) (h n) ∙ omega (arith, none_by p h n))

  in_none : (b : Bool) → (b && false) ≡ false
  in_none true = refl
  in_none false = refl

  none_below : (t : ℕ) → count_below R s never t ≡ 0
  none_below zero = none_by (never 0) (λ c. refl) (R.components s)
  none_below (suc t) = let here = none_by (never (suc t)) (λ c. refl) (R.components s) in let below = none_below t in omega (arith, here, below)

  none_in : (members : ℕ → Bool) (t : ℕ) → count_in R s never members t ≡ 0
  none_in members zero = none_by (λ c. members c && never 0 c) (λ c. in_none (members c)) (R.components s)
  none_in members (suc t) =
      let here = none_by (λ c. members c && never (suc t) c) (λ c. in_none (members c)) (R.components s) in
      let below = none_in (earlier R s members) t in
      omega (arith, here, below)

  if_none : (b : Bool) (n : ℕ) → n ≡ 0 → cond b n 0 ≡ 0
  if_none true n h = h
  if_none false n h = refl

  pub count_to_none : (horizon : ℕ) (f : ℕ → ℕ → Bool) → ((t c : ℕ) → t ≤ horizon → c < R.components s → f t c ≡ false) → (t : ℕ) → count_to R s horizon f t ≡ 0
  count_to_none horizon f h t = count_to_same R s horizon f never h t ∙ none_below (min t horizon)

  pub count_cone_none : (horizon : ℕ) (f : ℕ → ℕ → Bool) → ((t c : ℕ) → t ≤ horizon → c < R.components s → f t c ≡ false) → (t c : ℕ) → count_cone R s horizon f t c ≡ 0
  count_cone_none horizon f h t c = count_cone_same R s horizon f never h t c ∙ if_none (nat_le t horizon && nat_lt c (R.components s)) _ (none_in (λ m. m == c) t)

-- where none up to a cycle is counted as due, these cells hold the run
module _ {State Slots Slot : Type 0} (R : Rules State Slots Slot) (laws : Laws R) (v : Seen State Slots) (table : IsTable R v.slots v.horizon v.rows) where
  none_below_due : (t : ℕ) → count_below R v.slots (due_at v.rows) t ≡ 0 → (u c : ℕ) → u ≤ t → c < R.components v.slots → due_at v.rows u c ≡ false
  none_below_due zero none u c le lt =
      let first : u ≡ 0 = omega arith in
      subst (λ n. due_at v.rows n c ≡ false) (sym first) (none_counted (due_at v.rows 0) 0 (R.components v.slots) c none (omega arith) (omega arith))
  none_below_due (suc t) none u c le lt = elim (cases_lt t u) [
    | inl last ↦ let same : u ≡ suc t = omega arith in subst (λ n. due_at v.rows n c ≡ false) (sym same) (none_counted (due_at v.rows (suc t)) 0 (R.components v.slots) c (omega (arith, none)) (omega arith) (omega arith))
    | inr before ↦ none_below_due t (omega (arith, none)) u c before lt
  ]

  pub runs_up_to : (t : ℕ) → count_to R v.slots v.horizon (due_at v.rows) t ≡ 0 → (u c : ℕ) → u ≤ t → IsThere R v u c → (held_at v.rows u c).state ≡ Some (run R v.slots u c)
  runs_up_to t none u c le there =
      let within : u ≤ min t v.horizon = le-min le there.cycle in
      holds_run_at R laws v table u c there (λ w d near before. none_below_due (min t v.horizon) none w d (omega (arith, within, before)) near.component) (none_below_due (min t v.horizon) none u c within there.component)

-- the marks are what the events say, so they count the same
module _ {State Slots Slot : Type 0} (R : Rules State Slots Slot) (v : Seen State Slots) (o : Start Slots) (h : List (Event State Slots Slot)) (stands : Stands R o v h) where
  pub marks_stand : (t c : ℕ) → t ≤ v.horizon → c < R.components v.slots → due_at v.rows t c ≡ due R o h t c
  marks_stand t c le lt =
      let there : IsThere R v t c = record { cycle = le; component = lt } in
      (stands.cells t c there).is_due

  pub count_to_stands : (t : ℕ) → count_to R v.slots v.horizon (due_at v.rows) t ≡ count_to R (slots_of o h) (horizon_of o h) (due R o h) t
  count_to_stands t =
      count_to_same R v.slots v.horizon (due_at v.rows) (due R o h) marks_stand t
      ∙ ap (λ s. count_to R s v.horizon (due R o h) t) stands.slots
      ∙ ap (λ n. count_to R (slots_of o h) n (due R o h) t) stands.horizon

  pub count_cone_stands : (t c : ℕ) → count_cone R v.slots v.horizon (due_at v.rows) t c ≡ count_cone R (slots_of o h) (horizon_of o h) (due R o h) t c
  count_cone_stands t c =
      count_cone_same R v.slots v.horizon (due_at v.rows) (due R o h) marks_stand t c
      ∙ ap (λ s. count_cone R s v.horizon (due R o h) t c) stands.slots
      ∙ ap (λ n. count_cone R (slots_of o h) n (due R o h) t c) stands.horizon

-- the same, as it comes from a call
module _ {State Slots Slot : Type 0} (R : Rules State Slots Slot) (v : Seen State Slots) where
  pub cone_stands : {E : Type 0} (t c : ℕ) (r : Result ℕ E) → IfOk r (λ n. n ≡ count_cone R v.slots v.horizon (due_at v.rows) t c) → IfOk r (λ n. (o : Start Slots) (h : List (Event State Slots Slot)) → Stands R o v h → n ≡ count_cone R (slots_of o h) (horizon_of o h) (due R o h) t c)
  cone_stands t c (Ok n) counted = λ o h stands. counted ∙ count_cone_stands R v o h stands t c
  cone_stands t c (Err e) counted = tt
