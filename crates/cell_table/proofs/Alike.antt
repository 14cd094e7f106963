-- Whether the cells of a cycle get the states of the cells before: what is known of one component, and of the first of them.
use Rattle.std.proofs.Common.{◌≡◌, ◌↔◌, IsTrue, ℕ, zero, suc, ◌+◌, ◌-◌, ◌<◌, ◌≤◌, ◌∙◌, sym, ap, subst, refl, arith, Bool, true, false, ◌&&◌, ◌||◌, ◌⊎◌, inl, inr, Some, List, length, take, get_or, All}
use Rattle.std.proofs.lemmas.Bool.{true≢false, false≢true, cases_lt, cases_eq}
use Rattle.std.proofs.lemmas.List.Elements.{recursion_from_All, All-more, All-weaker}
use Rattle.std.proofs.lemmas.List.{take_all}
use Rattle.grid_law.specs.Rules.{Rules, Laws}
use Rattle.grid_law.specs.Run.{run}
use Rattle.due_cells.specs.Seen.{Seen, held_at}
use Rattle.cell_table.specs.Cells.{IsThere}
use Rattle.cell_states.specs.Near.{has}
use Rattle.cell_table.specs.Consistent.{IsTable}
use Rattle.cell_states.specs.Filling.{is_awake}
use Rattle.cell_states.specs.Versions.{any_changes}
use Rattle.cell_table.specs.Repeating.{IsAlike, BeginsAlike, StaysBefore, StaysAlikeTo}
use Rattle.cell_table.specs.Settling.{NoneDueBefore}
use Rattle.cell_states.proofs.Cases.{has_item}
use Rattle.cell_table.proofs.Runs.{holds_run_at}

module _ {State Slots Slot : Type 0} (R : Rules State Slots Slot) (laws : Laws R) (v : Seen State Slots) (table : IsTable R v.slots v.horizon v.rows) (s c : ℕ) (there : IsThere R v s c) (later : 2 ≤ s) (none : NoneDueBefore R v s 0) (stay : All (λ m. (held_at v.rows (s - 1 - 1) m).state ≡ (held_at v.rows (s - 1) m).state) (R.near v.slots c)) (kept : Bool) (holds : (x : State) → (held_at v.rows (s - 1) c).state ≡ Some x → IsTrue kept ↔ ((held_at v.rows s c).state ≡ Some x)) where
  abbrev x : State
  x = run R v.slots (s - 1) c

  held_before : (held_at v.rows (s - 1) c).state ≡ Some x
  held_before =
      let before : IsThere R v (s - 1) c = record { cycle = omega (arith, there.cycle); component = there.component } in
      holds_run_at R laws v table (s - 1) c before (λ t1 c1 i l. none t1 c1 i (omega (arith, l), λ p. absurd (omega (arith, l, p)))) (none (s - 1) c before (omega (arith, later), λ p. absurd (omega (arith, later, p))))

  near_before : (m : ℕ) → has (R.near v.slots c) m ≡ true → (held_at v.rows (s - 2) m).state ≡ (held_at v.rows (s - 1) m).state
  near_before m i =
      let two : s - 2 ≡ s - 1 - 1 = omega arith in
      ap (λ t. (held_at v.rows t m).state) two ∙ has_item (λ m. (held_at v.rows (s - 1 - 1) m).state ≡ (held_at v.rows (s - 1) m).state) (R.near v.slots c) m (recursion_from_All _ (R.near v.slots c) stay) i

  -- the cell holds the state of the cell before, or its component changes
  pub is_kept : (changes : Bool) → changes ≡ false → kept ≡ true → IsAlike R v s c changes
  is_kept changes e k = record {
    before = near_before;
    kept = λ f. (holds x held_before).0 k ∙ sym held_before;
    changed = λ f. absurd (false≢true (sym e ∙ f));
  }

  pub is_changed : (changes : Bool) → changes ≡ true → kept ≡ false → IsAlike R v s c changes
  is_changed changes e k = record {
    before = near_before;
    kept = λ f. absurd (true≢false (sym e ∙ f));
    changed = λ f same. absurd (true≢false (sym ((holds x held_before).1 (same ∙ held_before)) ∙ k));
  }

-- the first components of a cycle, where what is due is alike and nothing else changes
module _ {State Slots Slot : Type 0} (R : Rules State Slots Slot) (v : Seen State Slots) (s : ℕ) where
  pub record AlikeTo (changes : List Bool) (n : ℕ) : Type 0 where
    pub some : (c : ℕ) → is_awake changes c ≡ true → (held_at v.rows s c).is_due ≡ true
    pub alike : (c : ℕ) → c < n → (held_at v.rows s c).is_due ≡ true → IsAlike R v s c (is_awake changes c)
    pub rest : (c : ℕ) → n ≤ c → is_awake changes c ≡ false

  pub alike_none : (changes : List Bool) → ((c : ℕ) → is_awake changes c ≡ false) → AlikeTo changes 0
  alike_none changes none = record {
    some = λ c e. absurd (true≢false (sym e ∙ none c));
    alike = λ c h. absurd (omega (arith, h));
    rest = λ c h. none c;
  }

  -- one that is due, and those before it that aren't
  pub alike_more : (changes changes1 : List Bool) (n c : ℕ) → AlikeTo changes n → n ≤ c → (held_at v.rows s c).is_due ≡ true → ((k : ℕ) → n ≤ k → k < c → (held_at v.rows s k).is_due ≡ false) → ((k : ℕ) → (k ≡ c → ⊥) → is_awake changes1 k ≡ is_awake changes k) → IsAlike R v s c (is_awake changes1 c) → AlikeTo changes1 (c + 1)
  alike_more changes changes1 n c to after due between others here = record {
    some = λ k e. some k e (cases_eq k c);
    alike = λ k h d. alike k h d (cases_eq k c) (cases_lt k n);
    rest = λ k h. others k (λ p. absurd (omega (arith, h, p))) ∙ to.rest k (omega (arith, h, after));
  }
    where
      some : (k : ℕ) → is_awake changes1 k ≡ true → (k ≡ c) ⊎ (k ≡ c → ⊥) → (held_at v.rows s k).is_due ≡ true
      some k e (inl p) = ap (λ d. (held_at v.rows s d).is_due) p ∙ due
      some k e (inr p) = to.some k (sym (others k p) ∙ e)

      alike : (k : ℕ) → k < c + 1 → (held_at v.rows s k).is_due ≡ true → (k ≡ c) ⊎ (k ≡ c → ⊥) → (k < n) ⊎ (n ≤ k) → IsAlike R v s k (is_awake changes1 k)
      alike k h d (inl p) q = subst (λ d. IsAlike R v s d (is_awake changes1 d)) (sym p) here
      alike k h d (inr p) (inl q) = subst (IsAlike R v s k) (sym (others k p)) (to.alike k q d)
      alike k h d (inr p) (inr q) = absurd (true≢false (sym d ∙ between k q (omega (arith, h, p))))

  -- all of them
  pub alike_all : (changes : List Bool) (n : ℕ) → 2 ≤ s → AlikeTo changes n → ((k : ℕ) → n ≤ k → (held_at v.rows s k).is_due ≡ false) → BeginsAlike R v s changes
  alike_all changes n later to none = record {
    later = later;
    some = λ c h e. to.some c e;
    alike = λ c h d. by_place c d (cases_lt c n);
  }
    where
      by_place : (c : ℕ) → (held_at v.rows s c).is_due ≡ true → (c < n) ⊎ (n ≤ c) → IsAlike R v s c (is_awake changes c)
      by_place c d (inl h) = to.alike c h d
      by_place c d (inr h) = absurd (true≢false (sym d ∙ none c h))

-- how long nothing else happens near a component
module _ {State Slots Slot : Type 0} (R : Rules State Slots Slot) (v : Seen State Slots) (s : ℕ) (changes : List Bool) (c : ℕ) where
  pub record StaysFor (to : ℕ) (ms : List ℕ) : Type 0 where
    pub own : (u : ℕ) → s ≤ u → u < to → (held_at v.rows u c).state ≡ (held_at v.rows s c).state
    pub near : All (StaysBefore R v s changes to) ms

  -- two cycles at least are needed for anything to happen otherwise
  pub stays_few : (to : ℕ) → to ≤ s + 1 → StaysAlikeTo R v s changes c to
  stays_few to few = record {
    own = λ u a b. (let e : u ≡ s = omega (arith, a, b, few) in ap (λ t. (held_at v.rows t c).state) e);
    near = λ m i f u a b. (let e : u ≡ s - 1 = omega (arith, a, b, few) in ap (λ t. (held_at v.rows t m).state) e);
  }

  holds_less : (to to1 : ℕ) → to1 ≤ to → (m : ℕ) → StaysBefore R v s changes to m → StaysBefore R v s changes to1 m
  holds_less to to1 h m f e u a b = f e u a (omega (arith, b, h))

  -- one more of them
  pub stays_more : (to to1 : ℕ) (ms : List ℕ) (n m0 : ℕ) → n < length ms → StaysFor to (take n ms) → to1 ≤ to → StaysBefore R v s changes to1 (get_or ms n m0) → StaysFor to1 (take (n + 1) ms)
  stays_more to to1 ms n m0 h for less here = record {
    own = λ u a b. for.own u a (omega (arith, b, less));
    near = All-more (StaysBefore R v s changes to1) ms n m0 h (All-weaker (StaysBefore R v s changes to) (StaysBefore R v s changes to1) (holds_less to to1 less) (take n ms) for.near) here;
  }

  pub stays_all : (to : ℕ) (ms : List ℕ) (n : ℕ) → length ms ≤ n → ms ≡ R.near v.slots c → StaysFor to (take n ms) → StaysAlikeTo R v s changes c to
  stays_all to ms n end is for = record {
    own = for.own;
    near = λ m i. has_item (StaysBefore R v s changes to) (R.near v.slots c) m (recursion_from_All _ (R.near v.slots c) (subst (All (StaysBefore R v s changes to)) (take_all n ms end ∙ is) for.near)) i;
  }

-- whether one of the first components changes and is one of these, over those that don't change
module _ (changes : List Bool) (near : List ℕ) where
  pub any_end : (n m : ℕ) → n ≤ m → ((k : ℕ) → n ≤ k → k < m → is_awake changes k ≡ false) → any_changes changes near m ≡ any_changes changes near n
  any_end n zero h none = let e : n ≡ 0 = omega (arith, h) in ap (any_changes changes near) (sym e)
  any_end n (suc m) h none = by_place (cases_lt m n) (any_end n m)
    where
      by_place : (m < n) ⊎ (n ≤ m) → (n ≤ m → ((k : ℕ) → n ≤ k → k < m → is_awake changes k ≡ false) → any_changes changes near m ≡ any_changes changes near n) → any_changes changes near (suc m) ≡ any_changes changes near n
      by_place (inl l) rest = let e : suc m ≡ n = omega (arith, h, l) in ap (any_changes changes near) e
      by_place (inr l) rest =
          ap (λ b. (b && has near m) || any_changes changes near m) (none m l (omega arith))
          ∙ rest l (λ k i j. none k i (omega (arith, j)))

  pub any_more : (n c : ℕ) → n ≤ c → is_awake changes c ≡ true → ((k : ℕ) → n ≤ k → k < c → is_awake changes k ≡ false) → (any_changes changes near n || has near c) ≡ any_changes changes near (c + 1)
  any_more n c h here none =
      let one : suc c ≡ c + 1 = omega arith in
      or_swapped (any_changes changes near n) (has near c)
      ∙ ap (λ b. (b && has near c) || any_changes changes near n) (sym here)
      ∙ ap (λ b. (is_awake changes c && has near c) || b) (sym (any_end n c h none))
      ∙ ap (any_changes changes near) one
    where
      or_swapped : (a b : Bool) → (a || b) ≡ ((true && b) || a)
      or_swapped true true = refl
      or_swapped true false = refl
      or_swapped false true = refl
      or_swapped false false = refl
