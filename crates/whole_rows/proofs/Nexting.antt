-- One component a cycle later, out of a row that holds the words near it: the memory of no other one matters.
use Rattle.std.proofs.Common.{◌≡◌, ℕ, suc, ◌+◌, ◌<◌, ◌%◌, ◌^◌, ◌==◌, Bool, true, false, cond, List, [], ◌∷◌, length, map, drop, slice_index, refl, ap, sym, ◌∙◌, subst, Option, None, Some, arith, All, Result, Ok, Err, IfOk}
use Rattle.std.specs.Prelude.{slice_get, option_map, ◌||◌, IfSome, OnOk}
use Rattle.std.specs.Option.{option_or}
use Rattle.std.specs.List.{AllByRecursion, list_any}
use Rattle.std.proofs.lemmas.Bool.{eqb-true, eq-eqb, or_right}
use Rattle.std.proofs.lemmas.List.{length-map}
use Rattle.std.proofs.lemmas.List.Elements.{recursion_from_All}
use Rattle.std.proofs.lemmas.Option.{slice_get-map}
use Rattle.grid_law.specs.Codec.{IsTold}
use Rattle.grid_law.specs.Run.{run}
use Rattle.omega_net.specs.declared.component.Component.{Component}
use Rattle.omega_net.specs.declared.component.Component.TheVariants.{Proc as ProcAt, Module as ModuleAt, Switch}
use Rattle.omega_net.specs.declared.component.Net.TheVariants.{Low as LowNet, Comb as CombNet}
use Rattle.omega_net.specs.Numbers.{components, component_of, Exists}
use Rattle.omega_net.specs.Wires.{below}
use Rattle.mem_module.specs.declared.words.Stored.{Stored}
use Rattle.mem_module.specs.Memory.{IsAscending}
use Rattle.ref_proc.specs.declared.state.ProcState.{ProcState}
use Rattle.low_switch.specs.declared.state.LowState.{LowState}
use Rattle.comb_switch.specs.declared.state.CombState.{CombState}
use Rattle.state_words.specs.Reading.{proc_from, module_from, low_from, comb_from}
use Rattle.project_book.specs.Project.{Project}
use Rattle.machine_cells.specs.declared.state.MachineState.{MachineState}
use Rattle.machine_cells.specs.declared.state.MachineState.TheVariants.{Proc, Module, Low, Comb}
use Rattle.machine_cells.specs.Words.{words_of, memory_of, state_from}
use Rattle.machine_cells.specs.Codec.{memory_in, or_none, rp3_codec}
use Rattle.machine_cells.specs.Cells.{states_at}
use Rattle.machine_cells.specs.Cycle.{cycle, part_of}
use Rattle.machine_cells.specs.Moves.{moves}
use Rattle.machine_cells.specs.GridRules.{rp3_rules, near_cells, beside_numbers}
use Rattle.machine_cells.specs.GridLaws.{rp3_laws}
use Rattle.machine_cells.proofs.Parts.{parts-get}
use Rattle.machine_cells.proofs.Rows.{cells_are_parts}
use Rattle.machine_cells.proofs.Runs.{below-get, length-below}
use Rattle.cell_states.specs.NextWords.{IsOfWords}
use Rattle.flat_row.specs.Next.{given, memory_given, memory_left, next_state, part_given}
use Rattle.flat_row.specs.Row.{Arrays, IsRowOf, state_of, states_of}
use Rattle.flat_row.proofs.Handing.{forgotten, moves_forgotten, next_is}
use Rattle.whole_rows.specs.Rows.{memory_after, state_in}
use Rattle.whole_rows.proofs.Rising.{run_rises}
use Rattle.whole_rows.proofs.Stepping.{some_is, state_is, states_of_all}

-- a state by its head, of one of four kinds
abbrev by_kind : Bool → Bool → Bool → ProcState → ℕ → List ℕ → LowState → CombState → List Stored → MachineState
by_kind is_proc is_module is_low p h ws l q memory = cond is_proc (Proc p) (cond is_module (Module (module_from h ws memory)) (cond is_low (Low l) (Comb q)))

-- without its memory it is the same, whatever memory is put to the words
forget_kind : (a b d : Bool) (p : ProcState) (h : ℕ) (ws : List ℕ) (l : LowState) (q : CombState) (m n : List Stored)
    → forgotten (by_kind a b d p h ws l q m) ≡ forgotten (by_kind a b d p h ws l q n)
forget_kind true b d p h ws l q m n = refl
forget_kind false true d p h ws l q m n = refl
forget_kind false false true p h ws l q m n = refl
forget_kind false false false p h ws l q m n = refl

-- and with the memory of the other it is the other
give_kind : (a b d : Bool) (p : ProcState) (h : ℕ) (ws : List ℕ) (l : LowState) (q : CombState) (m n : List Stored)
    → given (memory_in (by_kind a b d p h ws l q m)) (by_kind a b d p h ws l q n) ≡ by_kind a b d p h ws l q m
give_kind true b d p h ws l q m n = refl
give_kind false true d p h ws l q m n = refl
give_kind false false true p h ws l q m n = refl
give_kind false false false p h ws l q m n = refl

forget_from : (ws : List ℕ) (m n : List Stored) → forgotten (state_from ws m) ≡ forgotten (state_from ws n)
forget_from ws m n =
    let h = slice_index ws 0 in
    let rest = drop 1 ws in
    forget_kind (h % 2 ^ 2 == 0) (h % 2 ^ 2 == 1) (h % 2 ^ 2 == 2) (proc_from h rest) h rest (low_from h rest) (comb_from h rest) m n

give_from : (ws : List ℕ) (m n : List Stored) → given (memory_in (state_from ws m)) (state_from ws n) ≡ state_from ws m
give_from ws m n =
    let h = slice_index ws 0 in
    let rest = drop 1 ws in
    give_kind (h % 2 ^ 2 == 0) (h % 2 ^ 2 == 1) (h % 2 ^ 2 == 2) (proc_from h rest) h rest (low_from h rest) (comb_from h rest) m n

-- states of the same words that these tell
module _ (x y : MachineState) (told_x : IsTold rp3_codec x) (told_y : IsTold rp3_codec y) (words : words_of y ≡ words_of x) where
  y_is : state_from (words_of x) (or_none (memory_in y)) ≡ y
  y_is = ap (λ ws. state_from ws (or_none (memory_in y))) (sym words) ∙ told_y

  pub forgotten_alike : forgotten x ≡ forgotten y
  forgotten_alike = ap forgotten (sym told_x) ∙ forget_from (words_of x) (or_none (memory_in x)) (or_none (memory_in y)) ∙ ap forgotten y_is

  pub given_back : given (memory_in x) y ≡ x
  given_back =
      ap (given (memory_in x)) (sym y_is) ∙ ap (λ s. given (memory_in s) (state_from (words_of x) (or_none (memory_in y)))) (sym told_x)
      ∙ give_from (words_of x) (or_none (memory_in x)) (or_none (memory_in y)) ∙ told_x

-- what it has of memory then
memory_next : (P : Project) (R : Arrays) (x : Component) (memory : Option (List Stored)) (left : Option Stored)
    → memory_in (given memory (state_of R (Some x))) ≡ memory → memory_of (part_given P R x memory) ≡ memory_left (memory_given R x memory) left
    → memory_in (part_given P R x memory) ≡ option_or (memory_after memory left) memory
memory_next P R (ProcAt p) None left own after = refl
memory_next P R (ProcAt p) (Some ws) left own after = cc
memory_next P R (ModuleAt m) None left own after = cc
memory_next P R (ModuleAt m) (Some ws) None own after = ap Some after
memory_next P R (ModuleAt m) (Some ws) (Some w) own after = ap Some after
memory_next P R (Switch LowNet s j) None left own after = refl
memory_next P R (Switch LowNet s j) (Some ws) left own after = cc
memory_next P R (Switch CombNet s j) None left own after = refl
memory_next P R (Switch CombNet s j) (Some ws) left own after = cc

-- all states, where those near a component are others than a row's
abbrev patched : (xs ys : ℕ → MachineState) → List ℕ → ℕ → MachineState
patched xs ys near n = cond (list_any (λ m. m == n) near) (xs n) (ys n)

patch_here : (xs ys : ℕ → MachineState) (near : List ℕ) (n : ℕ) → list_any (λ m. m == n) near ≡ true → patched xs ys near n ≡ xs n
patch_here xs ys near n h = ap (λ b. cond b (xs n) (ys n)) h

-- what holds of the numbers in a list holds of one that is in it
in_list : (A : ℕ → Type 0) (near : List ℕ) (n : ℕ) → AllByRecursion A near → list_any (λ m. m == n) near ≡ true → A n
in_list A [] n all h = cc
in_list A (m ∷ near) n all h = by_same (m == n) refl (in_list A near n all.1)
  where
    by_same : (b : Bool) → (m == n) ≡ b → (list_any (λ i. i == n) near ≡ true → A n) → A n
    by_same true e rest = subst A (eqb-true m n e) all.0
    by_same false e rest = rest (sym (ap (λ b. b || list_any (λ i. i == n) near) e) ∙ h)

module _ (P : Project) (R : Arrays) (of : IsRowOf P R) (xs : ℕ → MachineState) (c : ℕ) (h : c < components P.k) (all_near : All (IsOfWords rp3_codec (state_in R) xs) (near_cells P.k c)) where
  abbrev numbers : List ℕ
  numbers = near_cells P.k c

  near : AllByRecursion (IsOfWords rp3_codec (state_in R) xs) numbers
  near = recursion_from_All (IsOfWords rp3_codec (state_in R) xs) numbers all_near

  -- each state, with its memory forgotten, is the row's
  same_forgotten : (n : ℕ) → forgotten (patched xs (state_in R) numbers n) ≡ forgotten (state_in R n)
  same_forgotten n = by_place (list_any (λ m. m == n) numbers) refl
    where
      by_place : (b : Bool) → list_any (λ m. m == n) numbers ≡ b → forgotten (patched xs (state_in R) numbers n) ≡ forgotten (state_in R n)
      by_place true e =
          let it = in_list (IsOfWords rp3_codec (state_in R) xs) numbers n near e in
          ap forgotten (patch_here xs (state_in R) numbers n e) ∙ forgotten_alike (xs n) (state_in R n) it.told it.row_told it.words
      by_place false e = ap (λ b. forgotten (cond b (xs n) (state_in R n))) e

  abbrev count : ℕ
  count = components R.k

  abbrev all : List MachineState
  all = map (patched xs (state_in R) numbers) (below count)

  all_size : length all ≡ components P.k
  all_size = length-map (below count) (patched xs (state_in R) numbers) ∙ length-below count ∙ ap components of.size

  all_there : (n : ℕ) → n < components P.k → slice_get all n ≡ Some (patched xs (state_in R) numbers n)
  all_there n lt = slice_get-map (patched xs (state_in R) numbers) (below count) n ∙ ap (option_map (patched xs (state_in R) numbers)) (below-get count n (subst (λ k. n < components k) (sym of.size) lt))

  -- they move as the row's do
  same_moves : moves P all ≡ moves P (states_of R)
  same_moves =
      moves_forgotten P all ∙ ap (moves P) (map_map (below count)) ∙ sym (moves_forgotten P (states_of R))
    where
      map_map : (ns : List ℕ) → map forgotten (map (patched xs (state_in R) numbers) ns) ≡ map forgotten (map (λ n. state_of R (component_of R.k n)) ns)
      map_map [] = refl
      map_map (n ∷ ns) = ap (λ s. s ∷ map forgotten (map (patched xs (state_in R) numbers) ns)) (same_forgotten n) ∙ ap (λ l. forgotten (state_in R n) ∷ l) (map_map ns)

  own_there : list_any (λ m. m == c) numbers ≡ true
  own_there = ap (λ b. b || list_any (λ m. m == c) (beside_numbers P.k (component_of P.k c))) (eq-eqb c c refl)

  near_there : states_at all numbers ≡ map xs numbers
  near_there =
      states_of_all all (patched xs (state_in R) numbers) (components P.k) all_there numbers (recursion_from_All (λ m. m < components P.k) numbers (rp3_laws.near_within P c h))
      ∙ map_in numbers (λ n e. patch_here xs (state_in R) numbers n e)
    where
      map_in : (ns : List ℕ) → ((n : ℕ) → list_any (λ m. m == n) ns ≡ true → patched xs (state_in R) numbers n ≡ xs n) → map (patched xs (state_in R) numbers) ns ≡ map xs ns
      map_in [] each = refl
      map_in (n ∷ ns) each =
          ap (λ s. s ∷ map (patched xs (state_in R) numbers) ns) (each n (ap (λ b. b || list_any (λ m. m == n) ns) (eq-eqb n n refl)))
          ∙ ap (λ l. xs n ∷ l) (map_in ns (λ i e. each i (or_right (n == i) (list_any (λ m. m == i) ns) e)))

  own_near : IsOfWords rp3_codec (state_in R) xs c
  own_near = in_list (IsOfWords rp3_codec (state_in R) xs) numbers c near own_there

  -- its own state, with the memory of the other, is the other
  own_given : (x : Component) → component_of P.k c ≡ Some x → given (memory_in (xs c)) (state_of R (Some x)) ≡ xs c
  own_given x is = ap (given (memory_in (xs c))) (sym (state_is P R of.size c x is)) ∙ given_back (xs c) (state_in R c) own_near.told own_near.row_told own_near.words

  -- so a component's next state is its step of the states near it
  pub next_is_step : (x : Component) → component_of P.k c ≡ Some x → Exists P.k x → (memory : Option (List Stored)) → memory_in (xs c) ≡ memory → next_state P R x memory ≡ rp3_rules.step P (map xs numbers) c
  next_is_step x is there memory has =
      let none : 0 + c ≡ c = omega arith in
      let part : slice_get (cycle P all) c ≡ Some (part_of P (moves P (states_of R)) (Some x) (xs c)) =
      parts-get P (moves P all) 0 all c
      ∙ ap (option_map (λ s. part_of P (moves P all) (component_of P.k (0 + c)) s)) (all_there c h ∙ ap Some (patch_here xs (state_in R) numbers c own_there))
      ∙ ap (λ m. Some (part_of P m (component_of P.k (0 + c)) (xs c))) same_moves
      ∙ ap (λ o. Some (part_of P (moves P (states_of R)) o (xs c))) (ap (component_of P.k) none ∙ is) in
      ap (next_state P R x) (sym has)
      ∙ next_is P R of.size x there (memory_in (xs c))
      ∙ ap (part_of P (moves P (states_of R)) (Some x)) (own_given x is)
      ∙ some_is (sym part ∙ cells_are_parts P all all_size c h ∙ ap (λ l. Some (rp3_rules.step P l c)) near_there)

  -- and its memory is the one in which that was left
  pub memory_of_step : (x : Component) → component_of P.k c ≡ Some x → Exists P.k x → (memory : Option (List Stored)) → memory_in (xs c) ≡ memory → (left : Option Stored)
      → memory_of (next_state P R x memory) ≡ memory_left (memory_given R x memory) left
      → memory_in (rp3_rules.step P (map xs numbers) c) ≡ option_or (memory_after memory left) (memory_in (xs c))
  memory_of_step x is there memory has left after =
      let part : next_state P R x memory ≡ part_given P R x memory = next_is P R of.size x there memory in
      let own : memory_in (given memory (state_of R (Some x))) ≡ memory = ap (λ m. memory_in (given m (state_of R (Some x)))) (sym has) ∙ ap memory_in (own_given x is) ∙ has in
      ap memory_in (sym (next_is_step x is there memory has) ∙ part) ∙ memory_next P R x memory left own (ap memory_of (sym part) ∙ after)
      ∙ ap (option_or (memory_after memory left)) (sym has)

-- what a call answers, where it answers
pub on_answer : {A E : Type 0} (r : Result A E) {X : Type 0} → X → OnOk r X
on_answer (Ok a) x = x
on_answer (Err e) x = tt

pub by_answer : {A E : Type 0} (r : Result A E) {F G : A → Type 0} → ((a : A) → F a → G a) → IfOk r F → IfOk r G
by_answer (Ok a) then f = then a f
by_answer (Err e) then f = f

-- the memory of a component of the run, one cycle later
pub memory_of_run : (P : Project) (R : Arrays) → IsRowOf P R → (c : ℕ) → c < components P.k → (x : Component) → component_of P.k c ≡ Some x → Exists P.k x → (memory : Option (List Stored)) (left : Option Stored)
    → (IfSome memory IsAscending → memory_of (next_state P R x memory) ≡ memory_left (memory_given R x memory) left)
    → (t : ℕ) → All (IsOfWords rp3_codec (state_in R) (run rp3_rules P t)) (near_cells P.k c) → memory_in (run rp3_rules P t c) ≡ memory
    → memory_in (run rp3_rules P (suc t) c) ≡ option_or (memory_after memory left) (memory_in (run rp3_rules P t c))
memory_of_run P R of c h x is there memory left after t near has =
    memory_of_step P R of (run rp3_rules P t) c h near x is there memory has left (after (subst (λ o. IfSome o IsAscending) has (run_rises P t c)))
