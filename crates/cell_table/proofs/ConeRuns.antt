-- A cell whose cone has nothing due holds the run.
use Rattle.std.proofs.Common.{◌≡◌, ℕ, zero, suc, ◌+◌, ◌-◌, ◌<◌, ◌≤◌, ◌∙◌, sym, ap, subst, refl, arith, Bool, true, false, cond, ◌&&◌, ◌||◌, ◌==◌, inl, inr, eqb, eq-eqb, Some, List, [], ◌∷◌, map, get_or, length, count_by, Result, Ok, Err, IfOk}
use Rattle.std.specs.List.{AllByRecursion, range_with_len}
use Rattle.std.proofs.lemmas.List.Elements.{recursion_from_All}
use Rattle.std.proofs.lemmas.List.Folds.{list_any_at}
use Rattle.std.proofs.lemmas.List.FromFn.{length-range_with_len, get_or-range_with_len}
use Rattle.std.proofs.lemmas.List.Sums.{sum_by-cons}
use Rattle.std.proofs.lemmas.Bool.{and_from, cases_eq, false≢true}
use Rattle.grid_law.specs.declared.no_memory.NoMemory.{NoMemory}
use Rattle.grid_law.specs.Rules.{Rules, Laws, result_of}
use Rattle.due_cells.specs.Seen.{Held, Seen, row_at, held_at, held_in, due_at}
use Rattle.cell_table.specs.Cells.{IsThere}
use Rattle.due_cells.specs.Inputs.{states_of}
use Rattle.cell_table.specs.Consistent.{IsConsistent}
use Rattle.grid_law.specs.Run.{run}
use Rattle.cell_states.specs.Near.{has}
use Rattle.due_cells.specs.Cones.{every, earlier, count_in}
use Rattle.cell_table.proofs.Tables.{inputs_first, inputs_later}

-- where none passes, none of them does
not_counted : (b : Bool) (n : ℕ) → cond b 1 0 + n ≡ 0 → b ≡ false
not_counted true n h = absurd (omega arith)
not_counted false n h = refl

rest_none : (b : Bool) (n : ℕ) → cond b 1 0 + n ≡ 0 → n ≡ 0
rest_none b n h = omega arith

pub none_counted : (p : ℕ → Bool) (a n k : ℕ) → count_by p (range_with_len a n) ≡ 0 → a ≤ k → k < a + n → p k ≡ false
none_counted p a zero k h from below = absurd (omega arith)
none_counted p a (suc n) k h from below =
    let split : cond (p a) 1 0 + count_by p (range_with_len (a + 1) n) ≡ 0 = sym (sum_by-cons (λ c. cond (p c) 1 0) a (range_with_len (a + 1) n)) ∙ h in
    elim (cases_eq a k) [ inl e ↦ subst (λ i. p i ≡ false) e (not_counted (p a) _ split) | inr e ↦ none_counted p (a + 1) n k (rest_none (p a) _ split) (omega arith) (omega arith) ]

not_right : (x y : Bool) → x ≡ true → (x && y) ≡ false → y ≡ false
not_right true y h k = k
not_right false y h k = absurd (false≢true h)

or_first : (x y : Bool) → x ≡ true → (x || y) ≡ true
or_first true y h = refl
or_first false y h = absurd (false≢true h)

or_later : (x y : Bool) → y ≡ true → (x || y) ≡ true
or_later true y h = refl
or_later false y h = h

sum_left : (m n : ℕ) → m + n ≡ 0 → m ≡ 0
sum_left m n h = omega arith

sum_right : (m n : ℕ) → m + n ≡ 0 → n ≡ 0
sum_right m n h = omega arith

states_known : {State : Type 0} (row : List (Held State)) (f : ℕ → State) (ms : List ℕ) → AllByRecursion (λ m. (held_in row m).state ≡ Some (f m)) ms → states_of row ms ≡ Some (map f ms)
states_known row f [] p = refl
states_known row f (m ∷ ms) p = rw (p.0, states_known row f ms p.1) refl

some_same : {X : Type 0} (x y : X) → Some x ≡ Some y → x ≡ y
some_same x y e = cc

-- the states of a row for components of a set, where the row holds f for each of the set
each_known : {State : Type 0} (row : List (Held State)) (f : ℕ → State) (members : ℕ → Bool) (n : ℕ) → ((m : ℕ) → m < n → members m ≡ true → (held_in row m).state ≡ Some (f m)) → (ms : List ℕ) → AllByRecursion (λ m. m < n) ms → ((k : ℕ) → has ms k ≡ true → members k ≡ true) → AllByRecursion (λ m. (held_in row m).state ≡ Some (f m)) ms
each_known row f members n held [] inside among = tt
each_known row f members n held (m ∷ ms) inside among =
    (held m inside.0 (among m (or_first (eqb m m) (has ms m) (eq-eqb m m refl))), each_known row f members n held ms inside.1 (λ k h. among k (or_later (eqb m k) (has ms k) h)))

module _ {State Slots Slot : Type 0} (R : Rules State Slots Slot) (s : Slots) where
  -- a component of the set isn't due, where none of them is
  not_due : (row : List (Held State)) (members : ℕ → Bool) (c : ℕ) → count_by (λ k. members k && (held_in row k).is_due) (every R s) ≡ 0 → c < R.components s → members c ≡ true → (held_in row c).is_due ≡ false
  not_due row members c none inside member =
      not_right (members c) _ member (none_counted (λ k. members k && (held_in row k).is_due) 0 (R.components s) c none (omega arith) (omega arith))

  -- what is near one of the set is of the set one cycle earlier
  is_earlier : (members : ℕ → Bool) (c m : ℕ) → c < R.components s → members c ≡ true → has (R.near s c) m ≡ true → earlier R s members m ≡ true
  is_earlier members c m inside member near =
      let lt : c < length (every R s) = omega (arith, length-range_with_len 0 (R.components s)) in
      let at : get_or (every R s) c 0 ≡ c = get_or-range_with_len 0 (R.components s) c 0 inside ∙ omega arith in
      list_any_at (λ x. members x && has (R.near s x) m) (every R s) c 0 lt (ap (λ x. members x && has (R.near s x) m) at ∙ and_from (members c) (has (R.near s c) m) member near)

module _ {State Slots Slot : Type 0} (R : Rules State Slots Slot) (laws : Laws R) (s : Slots) (horizon : ℕ) (rows : List (List (Held State))) (consistent : IsConsistent R s horizon rows) where
  some_step : (ms rest : List ℕ) (f : ℕ → State) (c : ℕ) → ms ≡ c ∷ rest → result_of R s (map f ms) c ≡ R.step s (map f ms) c
  some_step ms rest f c e = rw e refl

  -- a cell that isn't due is the step of the run, where the cells near it hold the run
  steps_run : (t c : ℕ) (members : ℕ → Bool) → suc t ≤ horizon → c < R.components s → (held_at rows (suc t) c).is_due ≡ false → ((m : ℕ) → m < R.components s → members m ≡ true → (held_at rows t m).state ≡ Some (run R s t m)) → ((k : ℕ) → has (R.near s c) k ≡ true → members k ≡ true) → (held_at rows (suc t) c).state ≡ Some (run R s (suc t) c)
  steps_run t c members cycle inside settled held among =
      let current = consistent (suc t) c cycle inside settled in
      let back : suc t - 1 ≡ t = omega arith in
      let within = recursion_from_All _ (R.near s c) (laws.near_within s c inside) in
      let known = states_known (row_at rows t) (run R s t) (R.near s c) (each_known (row_at rows t) (run R s t) members (R.components s) held (R.near s c) within among) in
      let later = inputs_later R s rows (suc t) c (λ e. omega arith) ∙ ap (λ n. states_of (row_at rows n) (R.near s c)) back ∙ known in
      let inputs : current.is_current.inputs ≡ map (run R s t) (R.near s c) = some_same _ _ (sym current.is_current.are_held ∙ later) in
      current.holds ∙ ap Some (current.is_current.computed ∙ ap (λ xs. result_of R s xs c) inputs ∙ some_step (R.near s c) (laws.near_first s c).0 (run R s t) c (laws.near_first s c).1)

  pub cone_runs : (t : ℕ) (members : ℕ → Bool) → t ≤ horizon → count_in R s (due_at rows) members t ≡ 0 → (c : ℕ) → c < R.components s → members c ≡ true → (held_at rows t c).state ≡ Some (run R s t c)
  cone_runs zero members cycle none c inside member =
      let current = consistent 0 c cycle inside (not_due R s (row_at rows 0) members c none inside member) in
      let empty : current.is_current.inputs ≡ [] = some_same _ _ (sym current.is_current.are_held ∙ inputs_first R s rows 0 c refl) in
      current.holds ∙ ap Some (current.is_current.computed ∙ ap (λ xs. result_of R s xs c) empty)
  cone_runs (suc t) members cycle none c inside member =
      steps_run t c (earlier R s members) cycle inside (not_due R s (row_at rows (suc t)) members c (sum_left _ _ none) inside member) (cone_runs t (earlier R s members) (omega arith) (sum_right _ _ none)) (λ k near. is_earlier R s members c k inside member near)

-- a cell that is there holds the run, where nothing in its cone is due
module _ {State Slots Slot : Type 0} (R : Rules State Slots Slot) where
  pub cone_settled : (v : Seen State Slots) (t c : ℕ) (counted : Result ℕ NoMemory) → Laws R → IsConsistent R v.slots v.horizon v.rows → IfOk counted (λ due. due ≡ count_in R v.slots (due_at v.rows) (λ m. m == c) t) → IfOk counted (λ due. due ≡ 0 → IsThere R v t c → (held_at v.rows t c).state ≡ Some (run R v.slots t c))
  cone_settled v t c (Ok due) laws consistent h =
      λ none there. cone_runs R laws v.slots v.horizon v.rows consistent t (λ m. m == c) there.cycle (sym h ∙ none) c there.component (eq-eqb c c refl)
  cone_settled v t c (Err e) laws consistent h = tt
