-- Cycles that were settled at once, where the same happened in each: they were passed as one store after another would.
use Rattle.std.proofs.Common.{◌≡◌, ◌↔◌, ℕ, zero, suc, ◌+◌, ◌-◌, ◌*◌, ◌^◌, ◌<◌, ◌≤◌, ◌∙◌, sym, ap, subst, refl, arith, Bool, true, false, cond, ◌&&◌, ◌⊎◌, inl, inr, Some, List, length, take, get_or, count_by, All, nat_le, nat_lt}
use Rattle.std.proofs.lemmas.Bool.{cases_lt}
use Rattle.std.proofs.lemmas.Bool.Decides.{nat_tests}
use Rattle.std.proofs.lemmas.List.{take_all}
use Rattle.std.proofs.lemmas.List.Elements.{All-weaker}
use Rattle.std.proofs.lemmas.List.Sums.{count_by_more_yes, count_by_more_no}
use Rattle.cell_marks.specs.Marked.{count_in}
use Rattle.grid_law.specs.Rules.{Rules, Laws}
use Rattle.grid_law.specs.Run.{run}
use Rattle.cell_states.specs.declared.cell.CellRange.{CellRange}
use Rattle.due_cells.specs.Seen.{Held, Seen, nothing, marked, row_at, held_at, due_in_row}
use Rattle.cell_table.specs.Cells.{IsThere}
use Rattle.due_cells.specs.Layout.{cleared}
use Rattle.cell_states.specs.Near.{has}
use Rattle.cell_table.specs.Consistent.{IsTable, IsWhole}
use Rattle.cell_states.specs.Filling.{is_awake}
use Rattle.due_cells.specs.Ranges.{is_marked, IsWithin}
use Rattle.due_cells.specs.Woken.{differing, woken}
use Rattle.cell_table.specs.Passing.{clock_behind, reached, costing, cost_of, IsPassed, HoldsBut}
use Rattle.cell_table.specs.Repeating.{BeginsAlike, StaysAlike, AreDueAlike}
use Rattle.cell_table.specs.Settling.{NoneDueBefore, IsAt}
use Rattle.cell_table.proofs.Passing.{passed_at_end, passed_table}
use Rattle.cell_table.proofs.Repeating.{tells, run_within, cost_alike, clock_alike}

-- a number that rises with each item of a kind is their number
count_taken : {X : Type 0} (p : X → Bool) (xs : List X) (d : X) (f : ℕ → ℕ) → f 0 ≡ 0 → ((n : ℕ) → n < length xs → f (suc n) ≡ cond (p (get_or xs n d)) (f n + 1) (f n)) → (n : ℕ) → n ≤ length xs → f n ≡ count_by p (take n xs)
count_taken p xs d f none more zero h = none
count_taken p xs d f none more (suc n) h =
    let one : n + 1 ≡ suc n = omega arith in
    more n (omega (arith, h)) ∙ by_kind (p (get_or xs n d)) refl (count_taken p xs d f none more n (omega (arith, h))) ∙ ap (λ m. count_by p (take m xs)) one
  where
    by_kind : (b : Bool) → p (get_or xs n d) ≡ b → f n ≡ count_by p (take n xs) → cond b (f n + 1) (f n) ≡ count_by p (take (n + 1) xs)
    by_kind true e so = ap (λ m. m + 1) so ∙ sym (count_by_more_yes p xs n d (omega (arith, h)) e)
    by_kind false e so = so ∙ sym (count_by_more_no p xs n d (omega (arith, h)) e)

pub count_whole : {X : Type 0} (p : X → Bool) (xs : List X) (d : X) (f : ℕ → ℕ) (n : ℕ) → length xs ≡ n → f 0 ≡ 0 → ((k : ℕ) → k < length xs → f (suc k) ≡ cond (p (get_or xs k d)) (f k + 1) (f k)) → f n ≡ count_by p xs
count_whole p xs d f n len none more = count_taken p xs d f none more n (omega (arith, len)) ∙ ap (count_by p) (take_all n xs (omega (arith, len)))

one_more : (n w : ℕ) → suc n * w ≡ w + n * w
one_more n w = omega arith

mul_le_right : (m k w : ℕ) → k ≤ w → m * k ≤ m * w
mul_le_right zero k w h = omega arith
mul_le_right (suc m) k w h = omega (arith, one_more m k, one_more m w, mul_le_right m k w h, h)

-- the room for all cycles is enough for all but one in which fewer change, and one more
pub room_changed : (clock m w k : ℕ) → 0 < m → k ≤ w → clock + m * w < 2 ^ 64 → clock + (m - 1) * k + w < 2 ^ 64
room_changed clock zero w k some few room = absurd (omega (arith, some))
room_changed clock (suc m) w k some few room = let e : suc m - 1 ≡ m = omega arith in omega (arith, room, one_more m w, mul_le_right m k w few, ap (λ n. n * k) e)

-- how many components are marked, told one by one
pub differing_count : (changes : List Bool) (t n : ℕ) → length changes ≡ n → differing (λ u c. is_awake changes c) t n ≡ count_in changes
differing_count changes t n len = count_whole (λ b. b) changes false (differing (λ u c. is_awake changes c) t) n len refl (λ k h. refl)

-- what stays to before a cycle stays to before an earlier one
pub stays_less : {State Slots Slot : Type 0} (R : Rules State Slots Slot) (v : Seen State Slots) (s : ℕ) (changes : List Bool) (end e : ℕ) → e ≤ end → StaysAlike R v s changes end → StaysAlike R v s changes e
stays_less R v s changes end e h stays c k d = record {
  own = λ u a b. (stays c k d).own u a (omega (arith, b, h));
  near = λ m i q u a b. (stays c k d).near m i q u a (omega (arith, b, h));
}

module _ {State Slots Slot : Type 0} (R : Rules State Slots Slot) (laws : Laws R) (v : Seen State Slots) (table : IsTable R v.slots v.horizon v.rows) (s e : ℕ) (from_there : s ≤ v.horizon) (end : e ≤ v.horizon + 1) (none : NoneDueBefore R v s 0) (changes : List Bool) (begins : BeginsAlike R v s changes) (stays : StaysAlike R v s changes e) (alike : AreDueAlike R v s changes e) (after : s < e) (width : length changes ≡ R.components v.slots) where
  abbrev C : ℕ
  C = R.components v.slots

  abbrev m : ℕ
  m = e - s

  abbrev marks : ℕ → ℕ → Bool
  marks t c = is_awake changes c

  due_count : costing R v marks s 0 C ≡ due_in_row (row_at v.rows s)
  due_count =
      count_whole (λ (k : Held State). k.is_due) (row_at v.rows s) nothing (costing R v marks s 0) C (table.whole.components s from_there) refl (λ k h. refl)

  room_same : (clock : ℕ) → clock ≡ v.clock + m * count_in changes → clock ≡ clock_behind R v marks s m
  room_same clock is = is ∙ ap (λ n. v.clock + m * n) (sym (differing_count changes s C width)) ∙ sym (clock_alike R laws v table s e from_there end none changes begins stays alike m)

  -- what was made of the table: the cells first, and then the marks behind them
  module _ (rows1 rows2 : List (List (Held State))) (clock before : ℕ) (few : C < 4294967296) (versionless : (t c : ℕ) → (held_at v.rows t c).is_due ≡ false → (held_at v.rows t c).version ≡ 0)
      (is_clock : clock ≡ v.clock + m * count_in changes) (is_before : before ≡ v.clock + (m - 1) * count_in changes) (room : v.clock + m * C < 2 ^ 64) (whole : IsWhole R v.slots v.horizon rows2)
      (repeated : (t c : ℕ) → c < C → s ≤ t → t < e → held_at rows1 t c ≡ cleared (held_at v.rows (cond (is_awake changes c) (s - 1) t) c).state)
      (earlier : (t c : ℕ) → t < s → held_at rows1 t c ≡ held_at v.rows t c)
      (later : (t c : ℕ) → e ≤ t → held_at rows1 t c ≡ held_at v.rows t c)
      (others : (t c : ℕ) → t ≤ v.horizon → (t ≡ e → ⊥) → held_at rows2 t c ≡ held_at rows1 t c)
      (behind : e ≤ v.horizon → (c : ℕ) → c < C → held_at rows2 e c ≡ woken R v.slots rows1 marks before (e - 1) C c) where
    abbrev new : Seen State Slots
    new = record { slots = v.slots; horizon = v.horizon; clock = clock; rows = rows2 }

    passed_state : (t c : ℕ) → c < C → s ≤ t → t < e → (held_at v.rows (cond (is_awake changes c) (s - 1) t) c).state ≡ Some (run R v.slots t c)
    passed_state t c k h l = by_mark (is_awake changes c) refl
      where
        by_mark : (b : Bool) → is_awake changes c ≡ b → (held_at v.rows (cond (is_awake changes c) (s - 1) t) c).state ≡ Some (run R v.slots t c)
        by_mark true p = ap (λ b. (held_at v.rows (cond b (s - 1) t) c).state) p ∙ sym (run_within R laws v table s e from_there end none changes begins stays alike t c k h l p)
        by_mark false p =
            ap (λ b. (held_at v.rows (cond b (s - 1) t) c).state) p
            ∙ (tells R laws v table s e from_there end none changes begins stays alike t c (record { cycle = omega (arith, l, end); component = k }) h l).0 p

    -- marks behind the cycles don't hang on what those hold
    woken_same : (n c : ℕ) → woken R v.slots rows1 marks before (e - 1) n c ≡ woken R v.slots v.rows marks before (e - 1) n c
    woken_same zero c = later (e - 1 + 1) c (omega (arith, after))
    woken_same (suc n) c = ap (λ (r : Held State). cond (is_awake changes n && has (R.near v.slots c) n) (marked r (before + (differing marks (e - 1) n + 1))) r) (woken_same n c)

    behind_reached : (k c : ℕ) → suc k ≡ m → woken R v.slots v.rows marks before (e - 1) C c ≡ reached R v marks s (suc k) c
    behind_reached k c is =
        let here : e - 1 ≡ s + k = omega (arith, is, after) in
        let clocks : before ≡ clock_behind R v marks s k = is_before ∙ ap (λ n. v.clock + n * count_in changes) (earlier_count is) ∙ ap (λ n. v.clock + k * n) (sym (differing_count changes s C width)) ∙ sym (clock_alike R laws v table s e from_there end none changes begins stays alike k) in
        ap (λ n. woken R v.slots v.rows marks before n C c) here ∙ ap (λ n. woken R v.slots v.rows marks n (s + k) C c) clocks
      where
        earlier_count : suc k ≡ m → m - 1 ≡ k
        earlier_count p = omega (arith, p)

    behind_at : (n c : ℕ) → n ≡ m → c < C → e ≤ v.horizon → held_at rows2 e c ≡ reached R v marks s n c
    behind_at zero c is k h = absurd (omega (arith, is, after))
    behind_at (suc n) c is k h = behind h c k ∙ woken_same C c ∙ behind_reached n c is

    is_passed : IsPassed R v marks s new m
    is_passed = record {
      slots = refl;
      horizon = refl;
      clock = room_same clock is_clock;
      within = omega (arith, after, end);
      tells = λ t c there h l. tells R laws v table s e from_there end none changes begins stays alike t c there h (omega (arith, l, after));
      before = λ t c there h. others t c there.cycle (λ p. absurd (omega (arith, h, after, p))) ∙ earlier t c h;
      passed = λ t c there h l. (let i : t < e = omega (arith, l, after) in others t c there.cycle (λ p. absurd (omega (arith, i, p))) ∙ repeated t c there.component h i ∙ ap cleared (passed_state t c there.component h i));
      behind = λ t c there p. (let here : e ≡ t = omega (arith, after, p) in subst (λ u. held_at rows2 u c ≡ reached R v marks s m c) here (behind_at m c refl there.component (omega (arith, there.cycle, here))));
      later = λ t c there h. (let i : e < t = omega (arith, h, after) in others t c there.cycle (λ p. absurd (omega (arith, i, p))) ∙ later t c (omega (arith, i)));
    }

    told : (t c : ℕ) → IsThere R v t c → s ≤ t → t < e → (is_awake changes c ≡ false) ↔ ((held_at v.rows t c).state ≡ Some (run R v.slots t c))
    told = tells R laws v table s e from_there end none changes begins stays alike

    -- each pass that came before these cycles has come behind them
    pub goes_on_to : (first : Seen State Slots) (n : ℕ) → IsAt R first v s 0 n → IsAt R first new (s + m) 0 (n + m * due_in_row (row_at v.rows s))
    goes_on_to first n at =
        let number : cost_of R v marks s m ≡ m * due_in_row (row_at v.rows s) = cost_alike R laws v table s e from_there end none changes begins stays alike m (omega (arith, after)) ∙ ap (λ k. m * k) due_count in
        subst (λ k. IsAt R first new (s + m) 0 (n + k)) number (passed_at_end R laws v table few first s n at e marks told (λ t c there. versionless t c) m new (omega (arith, after)) is_passed whole room)

    pub stays_table : IsAt R v v s 0 0 → IsTable R v.slots v.horizon rows2
    stays_table at = passed_table R laws v table few v s 0 at e marks told (λ t c there. versionless t c) m new (omega (arith, after)) is_passed whole room

    -- only the cells of those that change may hold other states
    pub holds_but : (ranges : List CellRange) → All (IsWithin (v.horizon + 1) C) ranges → ((t c : ℕ) → is_marked ranges t c ≡ (is_awake changes c && (nat_le s t && nat_lt t e))) → HoldsBut R v new ranges
    holds_but ranges within is_range = record {
      slots = refl;
      horizon = refl;
      within = within;
      others = λ t c there p. by_cycle t c there (sym (is_range t c) ∙ p) (cases_lt t s) (cases_lt t e) (cases_lt e t);
    }
      where
        unmarked : (b : Bool) (t : ℕ) → (b && (nat_le s t && nat_lt t e)) ≡ false → s ≤ t → t < e → b ≡ false
        unmarked b t p h l = grind (arith, nat_tests)

        by_cycle : (t c : ℕ) → IsThere R v t c → (is_awake changes c && (nat_le s t && nat_lt t e)) ≡ false → (t < s) ⊎ (s ≤ t) → (t < e) ⊎ (e ≤ t) → (e < t) ⊎ (t ≤ e) → (held_at rows2 t c).state ≡ (held_at v.rows t c).state
        by_cycle t c there p (inl h) l i = ap (λ (r : Held State). r.state) (is_passed.before t c there h)
        by_cycle t c there p (inr h) (inl l) i =
            let q = unmarked (is_awake changes c) t p h l in
            ap (λ (r : Held State). r.state) (is_passed.passed t c there h (omega (arith, l, after))) ∙ sym ((told t c there h l).0 q)
        by_cycle t c there p (inr h) (inr l) (inl i) = ap (λ (r : Held State). r.state) (is_passed.later t c there (omega (arith, i, after)))
        by_cycle t c there p (inr h) (inr l) (inr i) =
            let here : e ≡ t = omega (arith, l, i) in
            subst (λ u. (held_at rows2 u c).state ≡ (held_at v.rows u c).state) here (ap (λ (r : Held State). r.state) (behind (omega (arith, there.cycle, here)) c there.component ∙ woken_same C c) ∙ woken_holds C c ∙ ap (λ u. (held_at v.rows u c).state) back)
          where
            back : e - 1 + 1 ≡ e
            back = omega (arith, after)

            woken_holds : (n d : ℕ) → (woken R v.slots v.rows marks before (e - 1) n d).state ≡ (held_at v.rows (e - 1 + 1) d).state
            woken_holds zero d = refl
            woken_holds (suc n) d = by_mark (is_awake changes n && has (R.near v.slots d) n) (woken_holds n d)
              where
                by_mark : (b : Bool) → (woken R v.slots v.rows marks before (e - 1) n d).state ≡ (held_at v.rows (e - 1 + 1) d).state → (cond b (marked (woken R v.slots v.rows marks before (e - 1) n d) (before + (differing marks (e - 1) n + 1))) (woken R v.slots v.rows marks before (e - 1) n d)).state ≡ (held_at v.rows (e - 1 + 1) d).state
                by_mark true q = q
                by_mark false q = q

-- ranges within fewer cycles are within more
pub ranges_within : (ranges : List CellRange) (e n w w1 : ℕ) → e ≤ n → w ≡ w1 → All (IsWithin e w) ranges → All (IsWithin n w1) ranges
ranges_within ranges e n w w1 h same within = All-weaker (IsWithin e w) (IsWithin n w1) (λ r k. (k.0, omega (arith, k.1, h), omega (arith, k.2, same))) ranges within
