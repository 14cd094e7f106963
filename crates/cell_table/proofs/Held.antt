-- The cells that hold a state go on to hold one.
use Rattle.std.proofs.Common.{◌≡◌, ℕ, ◌+◌, ◌-◌, ◌<◌, ◌≤◌, ◌∙◌, sym, ap, refl, arith, Bool, true, false, cond, ltb, ◌⊎◌, inl, inr, is_some, List}
use Rattle.std.proofs.lemmas.Bool.{cases_lt, cases_eq, le-ltb, false≢true}
use Rattle.grid_law.specs.Rules.{Rules}
use Rattle.due_cells.specs.Seen.{Held, Seen, held_at, fresh, stored, marked}
use Rattle.cell_table.specs.Cells.{IsThere}
use Rattle.due_cells.specs.Readers.{AreHeld}
use Rattle.cell_table.specs.Consistent.{IsTable}
use Rattle.due_cells.specs.Stores.{held_after}
use Rattle.cell_table.specs.Touches.{held_touched}
use Rattle.cell_table.specs.Settling.{NoneDueBefore}
use Rattle.cell_states.specs.Filling.{is_awake}
use Rattle.due_cells.specs.Layout.{cleared}

module _ {State : Type 0} where
  some_after : (a b : Bool) (x : State) (r : Held State) (v : ℕ) → is_some r.state ≡ true → is_some (cond a (stored x) (cond b (marked r v) r)).state ≡ true
  some_after true b x r v h = refl
  some_after false true x r v h = h
  some_after false false x r v h = h

  some_touched : (a b : Bool) (r : Held State) (v w : ℕ) → a ≡ false → is_some r.state ≡ true → is_some (cond a (fresh {State = State} w) (cond b (marked r v) r)).state ≡ true
  some_touched true b r v w e h = absurd (false≢true (sym e))
  some_touched false true r v w e h = h
  some_touched false false r v w e h = h

  -- what has the same state has one, too
  pub some_same : (r q : Held State) → q.state ≡ r.state → is_some r.state ≡ true → is_some q.state ≡ true
  some_same r q e h = ap is_some e ∙ h

module _ {State Slots Slot : Type 0} (R : Rules State Slots Slot) where
  -- after a store
  pub held_stored : (s : Slots) (horizon n : ℕ) (rows news : List (List (Held State))) (t c : ℕ) (x : State) (changed : Bool) (version : ℕ) → n ≤ horizon + 1 → AreHeld R s rows n → ((u d : ℕ) → u ≤ horizon → d < R.components s → held_at news u d ≡ held_after R s rows t c x changed version u d) → AreHeld R s news n
  held_stored s horizon n rows news t c x changed version within held at u d h k =
      ap (λ (r : Held State). is_some r.state) (at u d (omega (arith, within, h)) k) ∙ some_after _ _ x (held_at rows u d) version (held u d h k)

  -- after an edit
  pub held_edited : (v : Seen State Slots) (next : Slots) (listed : List Slot) (to n m : ℕ) (news : List (List (Held State))) → n ≤ v.horizon + 1 → m ≤ n → m ≤ to → R.components next ≡ R.components v.slots → AreHeld R v.slots v.rows n → ((t c : ℕ) → t ≤ to → c < R.components v.slots → held_at news t c ≡ held_touched R v listed t c) → AreHeld R next news m
  held_edited v next listed to n m news within fewer short same held at t c h k =
      let inside : c < R.components v.slots = omega (arith, k, same) in
      ap (λ (r : Held State). is_some r.state) (at t c (omega (arith, h, short)) inside)
      ∙ some_touched (ltb v.horizon t) _ (held_at v.rows t c) (v.clock + 1) (v.clock + 1) (le-ltb v.horizon t (omega (arith, within, h, fewer))) (held t c (omega (arith, h, fewer)) inside)

  -- where no cell is due before a cycle, each holds a state
  pub held_where_settled : (v : Seen State Slots) (end : ℕ) → IsTable R v.slots v.horizon v.rows → end ≤ v.horizon + 1 → NoneDueBefore R v end 0 → AreHeld R v.slots v.rows end
  held_where_settled v end table within none t c h k =
      let there : IsThere R v t c = record { cycle = omega (arith, h, within); component = k } in
      ap is_some (table.consistent t c there.cycle k (none t c there (omega (arith, h), λ e. absurd (omega (arith, e, h))))).holds

  -- the greater of two bounds
  pub held_to_both : (s : Slots) (rows : List (List (Held State))) (n m k : ℕ) → (k ≡ n) ⊎ (k ≡ m) → AreHeld R s rows n → AreHeld R s rows m → AreHeld R s rows k
  held_to_both s rows n m k (inl e) a b t c h = a t c (omega (arith, h, e))
  held_to_both s rows n m k (inr e) a b t c h = b t c (omega (arith, h, e))

  module _ (s : Slots) (n : ℕ) (rows rows1 : List (List (Held State))) (changes : List Bool) (from to : ℕ) where
    -- where cells hold again what was held before
    pub kept_alike : ((t c : ℕ) → c < R.components s → from ≤ t → t < to → held_at rows1 t c ≡ cleared (held_at rows (cond (is_awake changes c) (from - 1) t) c).state) → ((t c : ℕ) → t < from → held_at rows1 t c ≡ held_at rows t c) → ((t c : ℕ) → to ≤ t → held_at rows1 t c ≡ held_at rows t c) → AreHeld R s rows n → (t c : ℕ) → t < n → c < R.components s → is_some (held_at rows1 t c).state ≡ true
    kept_alike repeated earlier later held t c h k = by_cycle (cases_lt t from) (cases_lt t to)
      where
        which : (b : Bool) → from ≤ t → cond b (from - 1) t < n
        which true l = omega (arith, l, h)
        which false l = h

        by_cycle : (t < from) ⊎ (from ≤ t) → (t < to) ⊎ (to ≤ t) → is_some (held_at rows1 t c).state ≡ true
        by_cycle (inl l) m = ap (λ (r : Held State). is_some r.state) (earlier t c l) ∙ held t c h k
        by_cycle (inr l) (inl m) = ap (λ (r : Held State). is_some r.state) (repeated t c k l m) ∙ held (cond (is_awake changes c) (from - 1) t) c (which (is_awake changes c) l) k
        by_cycle (inr l) (inr m) = ap (λ (r : Held State). is_some r.state) (later t c m) ∙ held t c h k

  pub kept_behind : (s : Slots) (n e : ℕ) (rows1 rows2 : List (List (Held State))) (t c : ℕ) → is_some (held_at rows1 t c).state ≡ true → ((t ≡ e → ⊥) → held_at rows2 t c ≡ held_at rows1 t c) → (t ≡ e → (held_at rows2 t c).state ≡ (held_at rows1 t c).state) → is_some (held_at rows2 t c).state ≡ true
  kept_behind s n e rows1 rows2 t c held others there = by_cycle (cases_eq t e)
    where
      by_cycle : (t ≡ e) ⊎ (t ≡ e → ⊥) → is_some (held_at rows2 t c).state ≡ true
      by_cycle (inl p) = ap is_some (there p) ∙ held
      by_cycle (inr p) = ap (λ (r : Held State). is_some r.state) (others p) ∙ held
