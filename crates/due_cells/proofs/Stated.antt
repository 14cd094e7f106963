-- The states of the cells that marks and versions are of.
use Rattle.std.proofs.Common.{◌≡◌, ℕ, ◌+◌, ◌-◌, ◌<◌, ◌≤◌, ◌∙◌, ◌⊎◌, inl, inr, sym, ap, arith, None, List, [], length, replicate, take, get_or, ◌++◌, length-append, min}
use Rattle.std.proofs.lemmas.Bool.{cases_lt}
use Rattle.std.proofs.lemmas.List.{get_or_past, get_or-replicate, length-replicate, get_or-append_right, get_or_append_left, get_or-take, length-take, take_at}
use Rattle.cell_marks.specs.Marked.{Marked}
use Rattle.due_cells.specs.Seen.{Held, row_at}
use Rattle.cell_states.specs.Stated.{Stated, state_at, IsAsMany, IsSameStates}
use Rattle.due_cells.specs.Layout.{rows_of, IsLayout, IsBounded, IsStated}
use Rattle.due_cells.proofs.Keeping.{seen_cycle, seen_length, same_states}

-- there is a component for each place of a row
pub width_each : {State : Type 0} (states : Stated State) (due : Marked) (versions : List (List ℕ)) (rows : List (List (Held State))) (n : ℕ) → IsStated states due → rows_of (state_at states) due versions ≡ rows → 0 < length rows → ((t : ℕ) → t < length rows → length (row_at rows t) ≡ n) → states.width ≡ n
width_each states due versions rows n stated e some whole =
    stated.width ∙ sym (seen_length (state_at states) due versions rows e 0 (seen_cycle (state_at states) due versions rows e 0 some)) ∙ whole 0 some

module _ {State : Type 0} where
  -- there is no state of a cell that isn't there
  pub bounded_by : (states : Stated State) (due : Marked) → IsStated states due → IsBounded (state_at states) due.width (length due.rows)
  bounded_by states due stated = record {
    cycles = λ t c h. none_past t c h;
    components = λ t c h. by_cycle t c h (cases_lt t (length due.rows));
  }
    where
      none_past : (t c : ℕ) → length due.rows ≤ t → state_at states t c ≡ None
      none_past t c h = ap (λ row. get_or row c None) (get_or_past states.rows t [] (omega (arith, h, stated.cycles)))

      by_cycle : (t c : ℕ) → due.width ≤ c → (t < length due.rows) ⊎ (length due.rows ≤ t) → state_at states t c ≡ None
      by_cycle t c h (inl k) = get_or_past (get_or states.rows t []) c None (omega (arith, h, stated.whole t k))
      by_cycle t c h (inr k) = none_past t c k

  -- states of as many cells
  pub stated_along : (states states1 : Stated State) (due due1 : Marked) → IsStated states due → IsAsMany states states1 → due1.width ≡ due.width → length due1.rows ≡ length due.rows → IsStated states1 due1
  stated_along states states1 due due1 stated many width cycles = record {
    width = many.width ∙ stated.width ∙ sym width;
    cycles = many.cycles ∙ stated.cycles ∙ sym cycles;
    whole = λ t h. many.lens t ∙ stated.whole t (omega (arith, h, cycles)) ∙ sym width;
  }

  -- the same states
  pub same_stated : (states states1 : Stated State) (due : Marked) (versions : List (List ℕ)) (rows : List (List (Held State))) → IsStated states due → IsLayout due versions → rows_of (state_at states) due versions ≡ rows → IsSameStates states states1 → rows_of (state_at states1) due versions ≡ rows
  same_stated states states1 due versions rows stated layout e same =
      same_states (state_at states) (state_at states1) due versions rows (bounded_by states due stated) layout e same.same

  -- no states
  pub none_new : (w n t c : ℕ) → t < n → c < w → state_at {State = State} (record { width = w; rows = replicate n (replicate w None) }) t c ≡ None
  none_new w n t c h k = ap (λ row. get_or row c None) (get_or-replicate n t (replicate w None) [] h) ∙ get_or-replicate w c None None k

  pub stated_new : (w n : ℕ) (due : Marked) → due.width ≡ w → length due.rows ≡ n → IsStated {State = State} (record { width = w; rows = replicate n (replicate w None) }) due
  stated_new w n due width cycles = record {
    width = sym width;
    cycles = length-replicate n _ ∙ sym cycles;
    whole = λ t h. ap length (get_or-replicate n t (replicate w None) [] (omega (arith, h, cycles))) ∙ length-replicate w _ ∙ sym width;
  }

  -- states that end earlier
  pub same_cut : (states : Stated State) (n t c : ℕ) → t < n → state_at (record { width = states.width; rows = take n states.rows }) t c ≡ state_at states t c
  same_cut states n t c h = ap (λ row. get_or row c None) (get_or-take n states.rows t [] h)

  pub stated_cut : (states : Stated State) (due due1 : Marked) (n : ℕ) → IsStated states due → due1 ≡ record { width = due.width; rows = take n due.rows } → IsStated (record { width = states.width; rows = take n states.rows }) due1
  stated_cut states due due1 n stated e = record {
    width = stated.width ∙ sym width;
    cycles = length-take n states.rows ∙ ap (min n) stated.cycles ∙ sym cycles;
    whole = λ t h. ap length (get_or-take n states.rows t [] (omega (arith, h, cycles))) ∙ stated.whole t (omega (arith, h, cycles)) ∙ sym width;
  }
    where
      width : due1.width ≡ due.width
      width = ap (λ (m : Marked). m.width) e

      cycles : length due1.rows ≡ min n (length due.rows)
      cycles = ap (λ (m : Marked). length m.rows) e ∙ length-take n due.rows

  -- states with more cycles without one
  module _ (states states1 : Stated State) (due : Marked) (m : ℕ) (stated : IsStated states due) (e : states1 ≡ record { width = states.width; rows = states.rows ++ replicate m (replicate states.width None) }) where
    row_before : (t : ℕ) → t < length due.rows → get_or states1.rows t [] ≡ get_or states.rows t []
    row_before t h = ap (λ (s : Stated State). get_or s.rows t []) e ∙ get_or_append_left states.rows _ [] t (omega (arith, h, stated.cycles))

    row_behind : (t : ℕ) → length due.rows ≤ t → t < length due.rows + m → get_or states1.rows t [] ≡ replicate states.width None
    row_behind t h k = ap (λ (s : Stated State). get_or s.rows t []) e ∙ get_or-append_right states.rows _ (length due.rows) t [] stated.cycles h ∙ get_or-replicate m (t - length due.rows) (replicate states.width None) [] (omega (arith, h, k))

    pub same_before : (t c : ℕ) → t < length due.rows → c < due.width → state_at states1 t c ≡ state_at states t c
    same_before t c h k = ap (λ row. get_or row c None) (row_before t h)

    pub none_behind : (t c : ℕ) → length due.rows ≤ t → t < length due.rows + m → c < due.width → state_at states1 t c ≡ None
    none_behind t c h k l = ap (λ row. get_or row c None) (row_behind t h k) ∙ get_or-replicate states.width c None None (omega (arith, l, stated.width))

    pub stated_more : (due1 : Marked) → due1.width ≡ due.width → length due1.rows ≡ length due.rows + m → IsStated states1 due1
    stated_more due1 width cycles = record {
      width = ap (λ (s : Stated State). s.width) e ∙ stated.width ∙ sym width;
      cycles = ap (λ (s : Stated State). length s.rows) e ∙ length-append states.rows _ ∙ ap (λ k. length states.rows + k) (length-replicate m _) ∙ omega (arith, stated.cycles, cycles);
      whole = λ t h. by_cycle t (omega (arith, h, cycles)) (cases_lt t (length due.rows)) ∙ sym width;
    }
      where
        by_cycle : (t : ℕ) → t < length due.rows + m → (t < length due.rows) ⊎ (length due.rows ≤ t) → length (get_or states1.rows t []) ≡ due.width
        by_cycle t h (inl k) = ap length (row_before t k) ∙ stated.whole t k
        by_cycle t h (inr k) = ap length (row_behind t k h) ∙ length-replicate states.width _ ∙ stated.width

  -- cycles that were added are taken away
  pub grown_back : (states states1 states2 : Stated State) (m n : ℕ) → states1 ≡ record { width = states.width; rows = states.rows ++ replicate m (replicate states.width None) } → states2 ≡ record { width = states1.width; rows = take n states1.rows } → length states.rows ≡ n → states2 ≡ states
  grown_back states states1 states2 m n e f len =
      f ∙ ap (λ (s : Stated State). record { width = s.width; rows = take n s.rows }) e ∙ ap (λ rows. record { width = states.width; rows = rows }) (take_at states.rows (replicate m (replicate states.width None)) n len)
