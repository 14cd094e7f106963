-- Cells that are due and hold the run already: what is near them got other memories alone, which they don't see.
use Rattle.std.proofs.Common.{◌≡◌, ℕ, zero, suc, ◌+◌, ◌-◌, ◌<◌, ◌≤◌, ◌∙◌, sym, ap, subst, refl, arith, Bool, true, false, ◌&&◌, ◌||◌, eqb, eq-eqb, ◌⊎◌, inl, inr, Option, None, Some, List, [], ◌∷◌, length, map, unwrap_or}
use Rattle.std.specs.List.{AllByRecursion}
use Rattle.std.proofs.lemmas.Bool.{true≢false, cases_lt}
use Rattle.std.proofs.lemmas.List.Elements.{recursion_from_All, All-from_recursion}
use Rattle.grid_law.specs.Rules.{Rules, Laws, result_of}
use Rattle.grid_law.specs.Codec.{Codec}
use Rattle.grid_law.specs.ByWords.{AreOfWords, IsByWords}
use Rattle.grid_law.specs.Run.{run}
use Rattle.due_cells.specs.Seen.{Held, Seen, row_at, held_at, held_in}
use Rattle.due_cells.specs.Inputs.{states_of, with_state}
use Rattle.cell_states.specs.Near.{has}
use Rattle.cell_table.specs.Consistent.{IsTable, IsCurrent}
use Rattle.cell_states.specs.Filling.{is_awake}
use Rattle.cell_states.specs.Versions.{any_changes}
use Rattle.cell_table.specs.Settling.{NoneDueBefore}
use Rattle.due_cells.specs.WholeRows.{IsRowPut, HasWords}
use Rattle.due_cells.specs.Spares.{IsLeftOut, IsSpare, IsWide}
use Rattle.due_cells.specs.declared.spare.Spare.{Spare}
use Rattle.cell_table.proofs.Tables.{inputs_later}
use Rattle.cell_table.proofs.SettledRow.{tells_at, puts_run}

-- none near a component is marked
quiet_at : (worded : List Bool) (near : List ℕ) (n d : ℕ) → d < n → has near d ≡ true → any_changes worded near n ≡ false → is_awake worded d ≡ false
quiet_at worded near zero d h here none = absurd (omega (arith, h))
quiet_at worded near (suc n) d h here none = by_place (cases_lt d n) (λ l none. quiet_at worded near n d l here none)
  where
    or_left : (a b : Bool) → (a || b) ≡ false → a ≡ false
    or_left true b e = absurd (true≢false e)
    or_left false b e = refl

    or_right : (a b : Bool) → (a || b) ≡ false → b ≡ false
    or_right true b e = absurd (true≢false e)
    or_right false b e = e

    first : (a b : Bool) → (a && b) ≡ false → b ≡ true → a ≡ false
    first true b e t = absurd (true≢false (sym t ∙ e))
    first false b e t = refl

    by_place : (d < n) ⊎ (n ≤ d) → (d < n → any_changes worded near n ≡ false → is_awake worded d ≡ false) → is_awake worded d ≡ false
    by_place (inl l) before = before l (or_right (is_awake worded n && has near n) (any_changes worded near n) none)
    by_place (inr l) before =
        let e : n ≡ d = omega (arith, h, l) in
        first (is_awake worded d) (has near d) (subst (λ k. (is_awake worded k && has near k) ≡ false) e (or_left (is_awake worded n && has near n) (any_changes worded near n) none)) here

each_is : (m : ℕ) → eqb m m ≡ true
each_is m = eq-eqb m m refl

or_one : (a : Bool) → (a || true) ≡ true
or_one true = refl
or_one false = refl

has_all : (all ms : List ℕ) → ((m : ℕ) → has ms m ≡ true → has all m ≡ true) → AllByRecursion (λ m. has all m ≡ true) ms
has_all all [] f = tt
has_all all (m ∷ ms) f = (f m (ap (λ b. b || has ms m) (each_is m)), has_all all ms (λ k h. f k (ap (λ b. eqb m k || b) h ∙ or_one (eqb m k))))

-- the states near a component, as a function of it
module _ {State : Type 0} (row : List (Held State)) (other : ℕ → State) where
  abbrev pub held_or : ℕ → State
  held_or m = unwrap_or (held_in row m).state (other m)

  pub given_states : (ms : List ℕ) (xs : List State) → states_of row ms ≡ Some xs → (xs ≡ map held_or ms) × AllByRecursion (λ m. (held_in row m).state ≡ Some (held_or m)) ms
  given_states [] xs e = (some_same xs [] (sym e), tt)
    where
      some_same : {X : Type 0} (x y : X) → Some x ≡ Some y → x ≡ y
      some_same x y p = cc
  given_states (m ∷ ms) xs e = by_state (held_in row m).state refl (states_of row ms) refl (given_states ms) e
    where
      by_state : (o : Option State) → (held_in row m).state ≡ o → (rest : Option (List State)) → states_of row ms ≡ rest → ((ys : List State) → states_of row ms ≡ Some ys → (ys ≡ map held_or ms) × AllByRecursion (λ k. (held_in row k).state ≡ Some (held_or k)) ms)
          → with_state (held_in row m).state (states_of row ms) ≡ Some xs → (xs ≡ map held_or (m ∷ ms)) × AllByRecursion (λ k. (held_in row k).state ≡ Some (held_or k)) (m ∷ ms)
      by_state None p rest q so f = absurd (none_some xs (sym (ap (λ o. with_state o (states_of row ms)) p) ∙ f))
        where
          none_some : (y : List State) → None ≡ Some y → ⊥
          none_some y h = cc
      by_state (Some x) p None q so f = absurd (none_some xs (sym (ap (λ o. with_state o (states_of row ms)) p ∙ ap (with_state (Some x)) q) ∙ f))
        where
          none_some : (y : List State) → None ≡ Some y → ⊥
          none_some y h = cc
      by_state (Some x) p (Some ys) q so f =
          let is : x ∷ ys ≡ xs = some_list (x ∷ ys) xs (sym (ap (λ o. with_state o (states_of row ms)) p ∙ ap (with_state (Some x)) q) ∙ f) in
          let here : held_or m ≡ x = ap (λ o. unwrap_or o (other m)) p in
          (sym is ∙ ap (λ y. y ∷ ys) (sym here) ∙ ap (λ zs. held_or m ∷ zs) (so ys q).0, (p ∙ ap Some (sym here), (so ys q).1))
        where
          some_list : (y z : List State) → Some y ≡ Some z → y ≡ z
          some_list y z h = cc

module _ {State Slots Slot Memory : Type 0} (R : Rules State Slots Slot) (laws : Laws R) (v : Seen State Slots) (table : IsTable R v.slots v.horizon v.rows) (s : ℕ) (from_there : s ≤ v.horizon) (none : NoneDueBefore R v s 0)
    (changes : List Bool) (width : length changes ≡ R.components v.slots) (rows1 : List (List (Held State))) (row_put : IsRowPut R v.slots v.rows rows1 s changes)
    (C : Codec State Memory) (by_words : IsByWords R C v.slots) (worded : List Bool) (has_words : HasWords R C v.rows rows1 s worded) where
  module _ (c : ℕ) (within : s + 1 ≤ v.horizon) (left : IsLeftOut R v.slots rows1 (s + 1) changes worded c) where
    abbrev near : List ℕ
    near = R.near v.slots c

    abbrev xs : ℕ → State
    xs = held_or (row_at v.rows s) (run R v.slots s)

    settled : (held_at v.rows (s + 1) c).is_due ≡ false
    settled = sym (ap (λ (k : Held State). k.is_due) (row_put.others (s + 1) c (λ e. absurd (omega (arith, e))))) ∙ left.settled

    current : IsCurrent R v.slots v.rows (s + 1) c
    current = table.consistent (s + 1) c within left.there settled

    back : (s + 1) - 1 ≡ s
    back = omega arith

    inputs_are : states_of (row_at v.rows s) near ≡ Some current.is_current.inputs
    inputs_are = sym (inputs_later R v.slots v.rows (s + 1) c (λ e. absurd (omega (arith, e))) ∙ ap (λ n. states_of (row_at v.rows n) near) back) ∙ current.is_current.are_held

    of_words : (m : ℕ) → m < R.components v.slots → has near m ≡ true → (held_at v.rows s m).state ≡ Some (xs m) → AreOfWords C (xs m) (run R v.slots s m)
    of_words m h here holds =
        has_words m (xs m) (run R v.slots s m) (quiet_at worded near (R.components v.slots) m h here left.near) holds
        (ap (λ (k : Held State). k.state) (puts_run R laws v table s from_there none changes width rows1 row_put m h))

    all_of_words : (ms : List ℕ) → AllByRecursion (λ m. m < R.components v.slots) ms → AllByRecursion (λ m. has near m ≡ true) ms → AllByRecursion (λ m. (held_at v.rows s m).state ≡ Some (xs m)) ms → AllByRecursion (λ m. AreOfWords C (xs m) (run R v.slots s m)) ms
    all_of_words [] p q r = tt
    all_of_words (m ∷ ms) p q r = (of_words m p.0 q.0 r.0, all_of_words ms p.1 q.1 r.1)

    own_same : xs c ≡ run R v.slots s c
    own_same = ap (λ o. unwrap_or o (run R v.slots s c)) ((tells_at R laws v table s from_there none changes width rows1 row_put c left.there).0 left.own)

    some_step : (ms rest : List ℕ) (f : ℕ → State) → ms ≡ c ∷ rest → result_of R v.slots (map f ms) c ≡ R.step v.slots (map f ms) c
    some_step ms rest f e = rw e refl

    pub holds_already : (held_at v.rows (s + 1) c).state ≡ Some (run R v.slots (s + 1) c)
    holds_already =
        let given = given_states (row_at v.rows s) (run R v.slots s) near current.is_current.inputs inputs_are in
        let inside = recursion_from_All (λ m. m < R.components v.slots) near (laws.near_within v.slots c left.there) in
        let words = All-from_recursion (λ m. AreOfWords C (xs m) (run R v.slots s m)) near (all_of_words near inside (has_all near near (λ m h. h)) given.1) in
        let next : s + 1 ≡ suc s = omega arith in
        current.holds
        ∙ ap Some (current.is_current.computed ∙ ap (λ ys. result_of R v.slots ys c) given.0 ∙ some_step near (laws.near_first v.slots c).0 xs (laws.near_first v.slots c).1
        ∙ by_words xs (run R v.slots s) c left.there words (ap C.memory own_same) ∙ ap (λ n. run R v.slots n c) (sym next))

-- what is taken beside a table, where nothing is known
module _ {State Slots Slot : Type 0} (R : Rules State Slots Slot) where
  pub new_spare : (w : Seen State Slots) (n : ℕ) (b : Spare) → IsWide n b → n ≡ R.components w.slots → b.known_at ≡ 0 → IsSpare R w b
  new_spare w n b wide many none = record {
    wide = subst (λ k. IsWide k b) many wide;
    runs = λ c later here. absurd (omega (arith, later, none));
  }
