-- Cycles in which the same happens as in the one before them hold what that says.
use Rattle.std.proofs.Common.{◌≡◌, ◌↔◌, ℕ, zero, suc, ◌+◌, ◌-◌, ◌*◌, ◌<◌, ◌≤◌, ◌∙◌, sym, ap, subst, refl, arith, Bool, true, false, cond, eqb, ◌&&◌, ◌||◌, ◌⊎◌, inl, inr, Some, List, [], ◌∷◌}
use Rattle.std.specs.List.{AllByRecursion}
use Rattle.std.proofs.lemmas.Bool.{true≢false, false≢true, cases_lt, cases_eq, eq-eqb}
use Rattle.std.proofs.lemmas.List.Elements.{recursion_from_All}
use Rattle.grid_law.specs.Rules.{Rules, Laws}
use Rattle.grid_law.specs.Run.{run}
use Rattle.due_cells.specs.Seen.{Held, Seen, marked, held_at}
use Rattle.cell_table.specs.Cells.{IsThere}
use Rattle.cell_states.specs.Near.{has}
use Rattle.cell_table.specs.Consistent.{IsTable}
use Rattle.cell_states.specs.Filling.{is_awake}
use Rattle.due_cells.specs.Woken.{differing, woken}
use Rattle.cell_table.specs.Passing.{clock_behind, reached, costing, cost_of}
use Rattle.cell_states.specs.Versions.{any_changes}
use Rattle.cell_table.specs.Repeating.{is_due_here, BeginsAlike, StaysAlike, AreDueAlike}
use Rattle.cell_table.specs.Settling.{NoneDueBefore}
use Rattle.cell_states.proofs.Cases.{has_item, or_left, or_right}
use Rattle.cell_table.proofs.Runs.{holds_run_at, step_near}
use Rattle.cell_table.proofs.Trailing.{run_stays}

one_more : (n w : ℕ) → suc n * w ≡ n * w + w
one_more n w = omega arith

same_some : {X : Type 0} (x y : X) → Some x ≡ Some y → x ≡ y
same_some x y e = cc

all_has : (P : ℕ → Type 0) (ms : List ℕ) → ((m : ℕ) → has ms m ≡ true → P m) → AllByRecursion P ms
all_has P [] h = tt
all_has P (k ∷ ms) h = (h k (or_left (eqb k k) (has ms k) (eq-eqb k k refl)), all_has P ms (λ m e. h m (or_right (eqb k m) (has ms m) e)))

-- one of the components changes, or none does
none_changes : (changes : List Bool) (near : List ℕ) (n m : ℕ) → any_changes changes near n ≡ false → m < n → has near m ≡ true → is_awake changes m ≡ false
none_changes changes near zero m e h i = absurd (omega (arith, h))
none_changes changes near (suc n) m e h i = by_place (cases_eq m n) (none_changes changes near n m) (or_none (is_awake changes n && has near n) (any_changes changes near n) e)
  where
    or_none : (a b : Bool) → (a || b) ≡ false → (a ≡ false) × (b ≡ false)
    or_none true b k = absurd (true≢false k)
    or_none false b k = (refl, k)

    and_none : (a b : Bool) → (a && b) ≡ false → b ≡ true → a ≡ false
    and_none true b k l = absurd (true≢false (sym l ∙ k))
    and_none false b k l = refl

    by_place : (m ≡ n) ⊎ (m ≡ n → ⊥) → (any_changes changes near n ≡ false → m < n → has near m ≡ true → is_awake changes m ≡ false) → ((is_awake changes n && has near n) ≡ false) × (any_changes changes near n ≡ false) → is_awake changes m ≡ false
    by_place (inl p) rest k = ap (is_awake changes) p ∙ and_none (is_awake changes n) (has near n) k.0 (ap (has near) (sym p) ∙ i)
    by_place (inr p) rest k = rest k.1 (omega (arith, h, p)) i

or_due : {State : Type 0} (b : Bool) (r : Held State) (v : ℕ) (d c : Bool) → r.is_due ≡ (d || c) → (cond b (marked r v) r).is_due ≡ (d || (b || c))
or_due true r v true c e = refl
or_due true r v false c e = refl
or_due false r v d c e = e

module _ {State Slots Slot : Type 0} (R : Rules State Slots Slot) (laws : Laws R) (v : Seen State Slots) (table : IsTable R v.slots v.horizon v.rows) (s e : ℕ) (from_there : s ≤ v.horizon) (end : e ≤ v.horizon + 1) (none : NoneDueBefore R v s 0) (changes : List Bool) (begins : BeginsAlike R v s changes) (stays : StaysAlike R v s changes e) (alike : AreDueAlike R v s changes e) where
  abbrev C : ℕ
  C = R.components v.slots

  abbrev due : ℕ → Bool
  due = is_due_here R v s changes

  settled_run : (t c : ℕ) → c < C → t < s → (held_at v.rows t c).state ≡ Some (run R v.slots t c)
  settled_run t c k h =
      holds_run_at R laws v table t c (record { cycle = omega (arith, from_there, h); component = k }) (λ t1 c1 i l. none t1 c1 i (omega (arith, h, l), λ p. absurd (omega (arith, h, l, p)))) (none t c (record { cycle = omega (arith, from_there, h); component = k }) (omega (arith, h), λ p. absurd (omega (arith, h, p))))

  near_inside : (c m : ℕ) → c < C → has (R.near v.slots c) m ≡ true → m < C
  near_inside c m k i = has_item (λ m. m < C) (R.near v.slots c) m (recursion_from_All _ (R.near v.slots c) (laws.near_within v.slots c k)) i

  quiet : (c : ℕ) → c < C → due c ≡ false → is_awake changes c ≡ false
  quiet c k d = by_mark (is_awake changes c) refl
    where
      by_mark : (b : Bool) → is_awake changes c ≡ b → is_awake changes c ≡ false
      by_mark true p = absurd (false≢true (sym d ∙ begins.some c k p))
      by_mark false p = p

  -- a cell that isn't due holds the run where those near it do
  near_runs : (t c : ℕ) → t + 1 ≤ v.horizon → c < C → (held_at v.rows (t + 1) c).is_due ≡ false → ((m : ℕ) → has (R.near v.slots c) m ≡ true → (held_at v.rows t m).state ≡ Some (run R v.slots t m)) → (held_at v.rows (t + 1) c).state ≡ Some (run R v.slots (t + 1) c)
  near_runs t c h k d near =
      let current = table.consistent (t + 1) c h k d in
      let one : suc t ≡ t + 1 = omega arith in
      current.holds ∙ ap Some (step_near R laws v table t c (all_has _ (R.near v.slots c) near) current.state current.is_current ∙ ap (λ n. run R v.slots n c) one)

  -- what is so at cycle t
  record Alike (t : ℕ) : Type 0 where
    stands : (c : ℕ) → c < C → due c ≡ true → run R v.slots t c ≡ run R v.slots (s - 1) c
    holds : (c : ℕ) → c < C → due c ≡ false → (held_at v.rows t c).state ≡ Some (run R v.slots t c)
    near : t + 1 < e → (c m : ℕ) → c < C → due c ≡ true → has (R.near v.slots c) m ≡ true → run R v.slots t m ≡ run R v.slots (t - 1) m

  first : Alike (s - 1)
  first = record {
    stands = λ c k d. refl;
    holds = λ c k d. settled_run (s - 1) c k (omega (arith, begins.later));
    near = λ h c m k d i. (let j = near_inside c m k i in same_some _ _ (sym (settled_run (s - 1) m j (omega (arith, begins.later))) ∙ sym ((begins.alike c k d).before m i) ∙ ap (λ n. (held_at v.rows n m).state) two ∙ settled_run (s - 1 - 1) m j (omega (arith, begins.later))));
  }
    where
      two : s - 2 ≡ s - 1 - 1
      two = omega arith

  module _ (t : ℕ) (after : s ≤ t + 1) (within : t + 1 < e) (at : Alike t) where
    steps : (c : ℕ) → c < C → due c ≡ true → run R v.slots (t + 1) c ≡ run R v.slots t c
    steps c k d = run_stays R v.slots t c (omega (arith, after, begins.later)) (λ m i. at.near within c m k d i)

    near_holds : (c m : ℕ) → c < C → due c ≡ false → has (R.near v.slots c) m ≡ true → (held_at v.rows t m).state ≡ Some (run R v.slots t m)
    near_holds c m k d i = by_cycle (cases_lt t s)
      where
        j : m < C
        j = near_inside c m k i

        by_due : s ≤ t → (b : Bool) → due m ≡ b → (held_at v.rows t m).state ≡ Some (run R v.slots t m)
        by_due h true p =
            let still : is_awake changes m ≡ false = none_changes changes (R.near v.slots c) C m (or_none (held_at v.rows (t + 1) c).is_due (any_changes changes (R.near v.slots c) C) reach) j i in
            (stays m j p).own t h (omega (arith, within))
            ∙ (begins.alike m j p).kept still
            ∙ settled_run (s - 1) m j (omega (arith, begins.later))
            ∙ ap Some (sym (at.stands m j p))
          where
            or_none : (a b : Bool) → (a || b) ≡ false → b ≡ false
            or_none true b q = absurd (true≢false q)
            or_none false b q = q

            reach : ((held_at v.rows (t + 1) c).is_due || any_changes changes (R.near v.slots c) C) ≡ false
            reach = alike c (t + 1) k (omega (arith, h)) within ∙ d
        by_due h false p = at.holds m j p

        by_cycle : (t < s) ⊎ (s ≤ t) → (held_at v.rows t m).state ≡ Some (run R v.slots t m)
        by_cycle (inl h) = settled_run t m j h
        by_cycle (inr h) = by_due h (due m) refl

    not_due : (c : ℕ) → c < C → due c ≡ false → (held_at v.rows (t + 1) c).is_due ≡ false
    not_due c k d = by_cycle (cases_lt s (t + 1))
      where
        or_none : (a b : Bool) → (a || b) ≡ false → a ≡ false
        or_none true b q = absurd (true≢false q)
        or_none false b q = refl

        by_cycle : (s < t + 1) ⊎ (t + 1 ≤ s) → (held_at v.rows (t + 1) c).is_due ≡ false
        by_cycle (inl h) = or_none (held_at v.rows (t + 1) c).is_due (any_changes changes (R.near v.slots c) C) (alike c (t + 1) k h within ∙ d)
        by_cycle (inr h) = let same : t + 1 ≡ s = omega (arith, after, h) in ap (λ n. (held_at v.rows n c).is_due) same ∙ d

    next_holds : (c : ℕ) → c < C → due c ≡ false → (held_at v.rows (t + 1) c).state ≡ Some (run R v.slots (t + 1) c)
    next_holds c k d = near_runs t c (omega (arith, within, end)) k (not_due c k d) (λ m i. near_holds c m k d i)

    next : Alike (t + 1)
    next = record {
      stands = λ c k d. steps c k d ∙ at.stands c k d;
      holds = next_holds;
      near = λ h c m k d i. (let back : t ≡ t + 1 - 1 = omega arith in near_stands h c m k d i (due m) refl ∙ ap (λ n. run R v.slots n m) back);
    }
      where
        near_stands : t + 1 + 1 < e → (c m : ℕ) → c < C → due c ≡ true → has (R.near v.slots c) m ≡ true → (b : Bool) → due m ≡ b → run R v.slots (t + 1) m ≡ run R v.slots t m
        near_stands h c m k d i true p = steps m (near_inside c m k i) p
        near_stands h c m k d i false p =
            let j = near_inside c m k i in
            same_some _ _ (sym (next_holds m j p) ∙ (stays c k d).near m i (quiet m j p) (t + 1) (omega (arith, after)) h ∙ sym ((stays c k d).near m i (quiet m j p) t after within) ∙ at.holds m j p)

  along : (k : ℕ) → s - 1 + k < e → Alike (s - 1 + k)
  along zero h = let z : s - 1 ≡ s - 1 + 0 = omega arith in subst Alike z first
  along (suc k) h =
      let one : s - 1 + k + 1 ≡ s - 1 + suc k = omega arith in
      subst Alike one (next (s - 1 + k) (omega (arith, begins.later)) (omega (arith, h, one)) (along k (omega (arith, h))))

  all_alike : (t : ℕ) → s ≤ t + 1 → t < e → Alike t
  all_alike t h k = let here : s - 1 + (t - (s - 1)) ≡ t = omega (arith, h, begins.later) in subst Alike here (along (t - (s - 1)) (omega (arith, here, k)))

  abbrev pub changing : ℕ → ℕ → Bool
  changing t c = is_awake changes c

  -- the components that change are those that hold another state than the run's
  pub tells : (t c : ℕ) → IsThere R v t c → s ≤ t → t < e → (is_awake changes c ≡ false) ↔ ((held_at v.rows t c).state ≡ Some (run R v.slots t c))
  tells t c there h l = (λ q. kept q (due c) refl, λ q. by_mark q (is_awake changes c) refl)
    where
      k : c < C
      k = there.component

      at : Alike t
      at = all_alike t (omega (arith, h)) l

      run_here : due c ≡ true → (held_at v.rows (s - 1) c).state ≡ Some (run R v.slots t c)
      run_here d = settled_run (s - 1) c k (omega (arith, begins.later)) ∙ ap Some (sym (at.stands c k d))

      kept : is_awake changes c ≡ false → (b : Bool) → due c ≡ b → (held_at v.rows t c).state ≡ Some (run R v.slots t c)
      kept q true d = (stays c k d).own t h l ∙ (begins.alike c k d).kept q ∙ run_here d
      kept q false d = at.holds c k d

      by_mark : (held_at v.rows t c).state ≡ Some (run R v.slots t c) → (b : Bool) → is_awake changes c ≡ b → is_awake changes c ≡ false
      by_mark q true p =
          let d = begins.some c k p in
          absurd ((begins.alike c k d).changed p (sym ((stays c k d).own t h l) ∙ q ∙ sym (run_here d)))
      by_mark q false p = p

  -- a state of the run within these cycles
  pub run_within : (t c : ℕ) → c < C → s ≤ t → t < e → is_awake changes c ≡ true → Some (run R v.slots t c) ≡ (held_at v.rows (s - 1) c).state
  run_within t c k h l q =
      let at = all_alike t (omega (arith, h)) l in
      ap Some (at.stands c k (begins.some c k q)) ∙ sym (settled_run (s - 1) c k (omega (arith, begins.later)))

  -- which cells are due behind so many of these cycles
  woken_due : (clock t n c : ℕ) → (woken R v.slots v.rows changing clock t n c).is_due ≡ ((held_at v.rows (t + 1) c).is_due || any_changes changes (R.near v.slots c) n)
  woken_due clock t zero c = sym (no_more ((held_at v.rows (t + 1) c).is_due))
    where
      no_more : (b : Bool) → (b || false) ≡ b
      no_more true = refl
      no_more false = refl
  woken_due clock t (suc n) c =
      or_due (is_awake changes n && has (R.near v.slots c) n) (woken R v.slots v.rows changing clock t n c) (clock + (differing changing t n + 1)) (held_at v.rows (t + 1) c).is_due (any_changes changes (R.near v.slots c) n) (woken_due clock t n c)

  reached_due : (k c : ℕ) → s + k < e → c < C → (reached R v changing s k c).is_due ≡ due c
  reached_due zero c h i = refl
  reached_due (suc k) c h i =
      let one : s + k + 1 ≡ s + suc k = omega arith in
      woken_due (clock_behind R v changing s k) (s + k) C c
      ∙ alike c (s + k + 1) i (omega arith) (omega (arith, h, one))

  costing_alike : (k n : ℕ) → s + k < e → n ≤ C → costing R v changing s k n ≡ costing R v changing s 0 n
  costing_alike k zero h i = refl
  costing_alike k (suc n) h i =
      ap (λ b. cond b (costing R v changing s k n + 1) (costing R v changing s k n)) (reached_due k n h (omega (arith, i)))
      ∙ ap (λ m. cond (due n) (m + 1) m) (costing_alike k n h (omega (arith, i)))

  pub cost_alike : (k : ℕ) → s + k ≤ e → cost_of R v changing s k ≡ k * costing R v changing s 0 C
  cost_alike zero h = omega arith
  cost_alike (suc k) h = omega (arith, cost_alike k (omega (arith, h)), one_more k (costing R v changing s 0 C), costing_alike k C (omega (arith, h)) (omega arith))

  differing_alike : (t n : ℕ) → differing changing t n ≡ differing changing s n
  differing_alike t zero = refl
  differing_alike t (suc n) = ap (λ m. cond (is_awake changes n) (m + 1) m) (differing_alike t n)

  pub clock_alike : (k : ℕ) → clock_behind R v changing s k ≡ v.clock + k * differing changing s C
  clock_alike zero = omega arith
  clock_alike (suc k) = omega (arith, clock_alike k, one_more k (differing changing s C), differing_alike (s + k) C)
