-- States, marks and versions as rows of cells.
use Rattle.std.proofs.Common.{◌≡◌, ℕ, suc, ◌+◌, ◌-◌, ◌<◌, ◌≤◌, ◌^◌, ◌∙◌, sym, ap, subst, refl, arith, Bool, true, false, cond, eqb, ◌&&◌, ◌⊎◌, inl, inr, Option, None, Some, List, [], ◌∷◌, ◌++◌, length, map, take, replicate, get_or, length-append, sum_by, min, MatchOption}
use Rattle.std.specs.List.{range_with_len}
use Rattle.std.proofs.Math.ListN.{set, length-set}
use Rattle.std.proofs.lemmas.Bool.{cases_lt, ne_eqb, eqb-true, and_right}
use Rattle.std.proofs.lemmas.List.{get_or_past, get_or-replicate, length-replicate, get_or-append_right, get_or_append_left, get_or-take, length-take, take_all}
use Rattle.std.proofs.lemmas.List.FromFn.{length-map-range_with_len, get_or-map-range_with_len, fill_by_all}
use Rattle.std.proofs.lemmas.List.Sums.{sum_by-cons}
use Rattle.cell_marks.specs.Marked.{Marked, count_in, count_of, IsFirstFrom, row_at as marks_at, has as has_mark}
use Rattle.cell_states.proofs.Cases.{at_set, lens_set}
use Rattle.due_cells.specs.Seen.{Held, nothing, fresh, row_at, held_in, held_at, due_in_row, due_up_to}
use Rattle.due_cells.specs.NextDue.{IsNextDueInRow}
use Rattle.cell_states.specs.Versions.{version_at}
use Rattle.due_cells.specs.Layout.{kept, kept_at, rows_of, cleared, IsLayout, IsBounded, IsOtherCell}

same_at : {X : Type 0} (f : ℕ → ℕ → X) (t c u d : ℕ) → f u d ≡ cond ((eqb u t) && (eqb d c)) (f t c) (f u d)
same_at {X} f t c u d = by_test (eqb u t) (eqb d c) refl refl
  where
    by_test : (v w : Bool) → eqb u t ≡ v → eqb d c ≡ w → f u d ≡ cond (v && w) (f t c) (f u d)
    by_test true true p q = ap (λ i. f i d) (eqb-true u t p) ∙ ap (f t) (eqb-true d c q)
    by_test true false p q = refl
    by_test false w p q = refl

pub first_or_none : {P Q : Type 0} {F H : ℕ → Type 0} → (P → Q) → ((c : ℕ) → F c → H c) → (o : Option ℕ) → MatchOption o P F → MatchOption o Q H
first_or_none f g None h = f h
first_or_none f g (Some c) h = g c h

sums_same : {A B : Type 0} (f : A → ℕ) (g : B → ℕ) (xs : List A) (ys : List B) (a : A) (b : B) → length xs ≡ length ys → ((k : ℕ) → k < length xs → f (get_or xs k a) ≡ g (get_or ys k b)) → sum_by f xs ≡ sum_by g ys
sums_same f g [] [] a b l h = refl
sums_same f g [] (y ∷ ys) a b l h = absurd (omega (arith, l))
sums_same f g (x ∷ xs) [] a b l h = absurd (omega (arith, l))
sums_same f g (x ∷ xs) (y ∷ ys) a b l h =
    let rest = sums_same f g xs ys a b (omega (arith, l)) (λ k i. h (suc k) (omega (arith, i))) in
    let here : f x ≡ g y = h 0 (omega arith) in
    sum_by-cons f x xs ∙ ap (λ n. n + sum_by f xs) here ∙ ap (λ n. g y + n) rest ∙ sym (sum_by-cons g y ys)

-- marks and versions of new cells
pub layout_new : (due : Marked) (versions : List (List ℕ)) (w n v : ℕ) → due ≡ record { width = w; rows = replicate n (replicate w true) } → versions ≡ replicate n (replicate w v) → w < 2 ^ 32 → n < 2 ^ 32 → IsLayout due versions
layout_new due versions w n v de ve few short = record {
  marks = λ t h. ap (λ (m : Marked). length (marks_at m.rows t)) de ∙ ap length (get_or-replicate n t (replicate w true) [] (omega (arith, h, cycles))) ∙ length-replicate w true ∙ sym width;
  rows = ap length ve ∙ length-replicate n (replicate w v) ∙ sym cycles;
  numbers = λ t h. ap (λ vs. length (get_or vs t [])) ve ∙ ap length (get_or-replicate n t (replicate w v) [] (omega (arith, h, cycles))) ∙ length-replicate w v ∙ sym width;
  few = omega (arith, few, width);
  short = omega (arith, short, cycles);
}
  where
    width : due.width ≡ w
    width = ap (λ (m : Marked). m.width) de

    cycles : length due.rows ≡ n
    cycles = ap (λ (m : Marked). length m.rows) de ∙ length-replicate n (replicate w true)

-- and those of fewer cycles
pub layout_cut : (due due1 : Marked) (versions versions1 : List (List ℕ)) (n : ℕ) → IsLayout due versions → due1 ≡ record { width = due.width; rows = take n due.rows } → versions1 ≡ take n versions → IsLayout due1 versions1
layout_cut due due1 versions versions1 n layout de ve = record {
  marks = λ t h. ap (λ (m : Marked). length (marks_at m.rows t)) de ∙ ap length (get_or-take n due.rows t [] (omega (arith, h, cycles))) ∙ layout.marks t (omega (arith, h, cycles)) ∙ sym width;
  rows = ap length ve ∙ length-take n versions ∙ ap (min n) layout.rows ∙ sym cycles;
  numbers = λ t h. ap (λ vs. length (get_or vs t [])) ve ∙ ap length (get_or-take n versions t [] (omega (arith, h, cycles))) ∙ layout.numbers t (omega (arith, h, cycles)) ∙ sym width;
  few = omega (arith, layout.few, width);
  short = omega (arith, layout.short, cycles);
}
  where
    width : due1.width ≡ due.width
    width = ap (λ (m : Marked). m.width) de

    cycles : length due1.rows ≡ min n (length due.rows)
    cycles = ap (λ (m : Marked). length m.rows) de ∙ length-take n due.rows

module _ {State : Type 0} where
  -- a list of rows, cell by cell
  pub rows_are : (rows : List (List (Held State))) (states : ℕ → ℕ → Option State) (due : Marked) (versions : List (List ℕ)) → length rows ≡ length due.rows → ((t : ℕ) → t < length due.rows → length (row_at rows t) ≡ due.width) → ((t c : ℕ) → t < length due.rows → c < due.width → held_at rows t c ≡ kept_at states due versions t c) → rows ≡ rows_of states due versions
  rows_are rows states due versions len lens at =
      fill_by_all (λ t. map (kept_at states due versions t) (range_with_len 0 due.width)) rows (length due.rows) [] len (λ t h. fill_by_all (kept_at states due versions t) (row_at rows t) due.width nothing (lens t h) (λ c k. at t c h k))

  module _ (states : ℕ → ℕ → Option State) (due : Marked) (versions : List (List ℕ)) where
    pub length_rows : length (rows_of states due versions) ≡ length due.rows
    length_rows = length-map-range_with_len _ 0 (length due.rows)

    row_there : (t : ℕ) → t < length due.rows → row_at (rows_of states due versions) t ≡ map (kept_at states due versions t) (range_with_len 0 due.width)
    row_there t h = get_or-map-range_with_len (λ t. map (kept_at states due versions t) (range_with_len 0 due.width)) 0 (length due.rows) t t [] h (omega arith)

    row_past : (t : ℕ) → length due.rows ≤ t → row_at (rows_of states due versions) t ≡ []
    row_past t h = get_or_past (rows_of states due versions) t [] (omega (arith, length_rows))

    pub length_row : (t : ℕ) → t < length due.rows → length (row_at (rows_of states due versions) t) ≡ due.width
    length_row t h = ap length (row_there t h) ∙ length-map-range_with_len _ 0 due.width

    module _ (bounded : IsBounded states due.width (length due.rows)) (layout : IsLayout due versions) where
      past_cycles : (t c : ℕ) → length due.rows ≤ t → kept_at states due versions t c ≡ nothing
      past_cycles t c h = rw (bounded.cycles t c h, no_mark) refl
        where
          no_mark : has_mark due.rows t c ≡ false
          no_mark = ap (λ row. get_or row c false) (get_or_past due.rows t [] h)

      past_components : (t c : ℕ) → t < length due.rows → due.width ≤ c → kept_at states due versions t c ≡ nothing
      past_components t c h k = rw (bounded.components t c k, no_mark) refl
        where
          no_mark : has_mark due.rows t c ≡ false
          no_mark = get_or_past (get_or due.rows t []) c false (omega (arith, layout.marks t h))

      -- what a row shows of a component, also where there is none
      pub held_kept : (t c : ℕ) → held_at (rows_of states due versions) t c ≡ kept_at states due versions t c
      held_kept t c = by_place (cases_lt t (length due.rows)) (cases_lt c due.width)
        where
          by_place : (t < length due.rows) ⊎ (length due.rows ≤ t) → (c < due.width) ⊎ (due.width ≤ c) → held_at (rows_of states due versions) t c ≡ kept_at states due versions t c
          by_place (inl h) (inl k) = ap (λ row. held_in row c) (row_there t h) ∙ get_or-map-range_with_len (kept_at states due versions t) 0 due.width c c nothing k (omega arith)
          by_place (inl h) (inr k) = get_or_past (row_at (rows_of states due versions) t) c nothing (omega (arith, length_row t h)) ∙ sym (past_components t c h k)
          by_place (inr h) k = ap (λ row. held_in row c) (row_past t h) ∙ sym (past_cycles t c h)

    pub lens_past : (t : ℕ) → length due.rows ≤ t → length (row_at (rows_of states due versions) t) ≡ 0
    lens_past t h = ap length (row_past t h)

  -- what is seen of them
  module _ (states : ℕ → ℕ → Option State) (due : Marked) (versions : List (List ℕ)) (rows : List (List (Held State))) (e : rows_of states due versions ≡ rows) where
    pub seen_cycles : length rows ≡ length due.rows
    seen_cycles = ap length (sym e) ∙ length_rows states due versions

    pub seen_cycle : (t : ℕ) → t < length rows → t < length due.rows
    seen_cycle t h = omega (arith, seen_cycles)

    pub seen_length : (t : ℕ) → t < length due.rows → length (row_at rows t) ≡ due.width
    seen_length t h = ap (λ r. length (row_at r t)) (sym e) ∙ length_row states due versions t h

    pub seen_component : (t c : ℕ) → t < length rows → c < length (row_at rows t) → c < due.width
    seen_component t c h k = omega (arith, seen_length t (seen_cycle t h))

    pub seen : IsBounded states due.width (length due.rows) → IsLayout due versions → (t c : ℕ) → held_at rows t c ≡ kept_at states due versions t c
    seen bounded layout t c = ap (λ r. held_at r t c) (sym e) ∙ held_kept states due versions bounded layout t c

    pub seen_state : IsBounded states due.width (length due.rows) → IsLayout due versions → (t c : ℕ) → (held_at rows t c).state ≡ states t c
    seen_state bounded layout t c = ap (λ (k : Held State). k.state) (seen bounded layout t c)

    pub seen_due : IsBounded states due.width (length due.rows) → IsLayout due versions → (t c : ℕ) → (held_at rows t c).is_due ≡ has_mark due.rows t c
    seen_due bounded layout t c = ap (λ (k : Held State). k.is_due) (seen bounded layout t c)

    pub seen_version : IsBounded states due.width (length due.rows) → IsLayout due versions → (t c : ℕ) → has_mark due.rows t c ≡ true → (held_at rows t c).version ≡ version_at versions t c
    seen_version bounded layout t c e = ap (λ (k : Held State). k.version) (seen bounded layout t c) ∙ ap (λ b. cond b (version_at versions t c) 0) e

    pub seen_no_version : IsBounded states due.width (length due.rows) → IsLayout due versions → (t c : ℕ) → has_mark due.rows t c ≡ false → (held_at rows t c).version ≡ 0
    seen_no_version bounded layout t c e = ap (λ (k : Held State). k.version) (seen bounded layout t c) ∙ ap (λ b. cond b (version_at versions t c) 0) e

    pub seen_first : IsBounded states due.width (length due.rows) → IsLayout due versions → (t from c : ℕ) → IsFirstFrom (marks_at due.rows t) from c × (c < length (marks_at due.rows t)) → IsNextDueInRow (row_at rows t) from c × (c < length (row_at rows t))
    seen_first bounded layout t from c first = (
      record {
        due = seen_due bounded layout t c ∙ first.0.1;
        after = first.0.0;
        none_between = λ k h l. seen_due bounded layout t k ∙ first.0.2 k h l;
      },
      by_cycle (cases_lt t (length due.rows)),
    )
      where
        by_cycle : (t < length due.rows) ⊎ (length due.rows ≤ t) → c < length (row_at rows t)
        by_cycle (inl h) = omega (arith, first.1, seen_length t h, layout.marks t h)
        by_cycle (inr h) = absurd (let none : length (marks_at due.rows t) ≡ 0 = ap length (get_or_past due.rows t [] h) in omega (arith, first.1))

    -- one cell is held otherwise
    pub other_cell : (states1 : ℕ → ℕ → Option State) (due1 : Marked) (versions1 : List (List ℕ)) (t c : ℕ) (h : Held State) → IsBounded states due.width (length due.rows) → IsLayout due versions → IsBounded states1 due1.width (length due1.rows) → IsLayout due1 versions1 → due1.width ≡ due.width → length due1.rows ≡ length due.rows → ((u d : ℕ) → kept_at states1 due1 versions1 u d ≡ cond ((eqb u t) && (eqb d c)) h (kept_at states due versions u d)) → IsOtherCell rows (rows_of states1 due1 versions1) t c h
    other_cell states1 due1 versions1 t c h bounded layout bounded1 layout1 width cycles at = record {
      len = length_rows states1 due1 versions1 ∙ cycles ∙ sym seen_cycles;
      lens = λ u. by_cycle u (cases_lt u (length due.rows));
      at = λ u d. held_kept states1 due1 versions1 bounded1 layout1 u d ∙ at u d ∙ ap (λ k. cond ((eqb u t) && (eqb d c)) h k) (sym (seen bounded layout u d));
    }
      where
        by_cycle : (u : ℕ) → (u < length due.rows) ⊎ (length due.rows ≤ u) → length (row_at (rows_of states1 due1 versions1) u) ≡ length (row_at rows u)
        by_cycle u (inl k) = length_row states1 due1 versions1 u (omega (arith, k, cycles)) ∙ width ∙ sym (seen_length u k)
        by_cycle u (inr k) = lens_past states1 due1 versions1 u (omega (arith, k, cycles)) ∙ sym (ap (λ r. length (row_at r u)) (sym e) ∙ lens_past states due versions u k)

    -- the same is held for each cell
    pub same_cells : (states1 : ℕ → ℕ → Option State) (due1 : Marked) (versions1 : List (List ℕ)) → IsBounded states due.width (length due.rows) → IsLayout due versions → due1.width ≡ due.width → length due1.rows ≡ length due.rows → ((u d : ℕ) → kept_at states1 due1 versions1 u d ≡ kept_at states due versions u d) → rows_of states1 due1 versions1 ≡ rows
    same_cells states1 due1 versions1 bounded layout width cycles at =
        sym (rows_are rows states1 due1 versions1 (seen_cycles ∙ sym cycles) (λ t h. seen_length t (omega (arith, h, cycles)) ∙ sym width) (λ t c h k. seen bounded layout t c ∙ sym (at t c)))

  three : (b : Bool) (s s1 : Option State) (d d1 : Bool) (v v1 : ℕ) → ◌≡◌ {A = Held State} (kept (cond b s1 s) (cond b d1 d) (cond b v1 v)) (cond b (kept s1 d1 v1) (kept s d v))
  three true s s1 d d1 v v1 = refl
  three false s s1 d d1 v v1 = refl

  -- the same of as many cells
  pub bounded_along : (states : ℕ → ℕ → Option State) {w w1 n n1 : ℕ} → w1 ≡ w → n1 ≡ n → IsBounded states w n → IsBounded states w1 n1
  bounded_along states width cycles bounded = record {
    cycles = λ t c h. bounded.cycles t c (omega (arith, h, cycles));
    components = λ t c h. bounded.components t c (omega (arith, h, width));
  }

  module _ (states : ℕ → ℕ → Option State) (due : Marked) (versions : List (List ℕ)) (bounded : IsBounded states due.width (length due.rows)) (layout : IsLayout due versions) (rows : List (List (Held State))) (e : rows_of states due versions ≡ rows) (t c : ℕ) (there : t < length due.rows) (inside : c < due.width) where
    marks_after : (b : Bool) (u d : ℕ) → has_mark (set due.rows t (set (marks_at due.rows t) c b)) u d ≡ cond ((eqb u t) && (eqb d c)) b (has_mark due.rows u d)
    marks_after b u d = at_set due.rows t c b false there (omega (arith, layout.marks t there)) u d

    pub layout_stored : (due1 : Marked) (b : Bool) → due1 ≡ record { width = due.width; rows = set due.rows t (set (marks_at due.rows t) c b) } → IsLayout due1 versions
    layout_stored due1 b de = record {
      marks = λ u h. ap (λ (m : Marked). length (marks_at m.rows u)) de ∙ lens_set due.rows t c b u ∙ layout.marks u (omega (arith, h, cycles)) ∙ sym width;
      rows = layout.rows ∙ sym cycles;
      numbers = λ u h. layout.numbers u (omega (arith, h, cycles)) ∙ sym width;
      few = omega (arith, width, layout.few);
      short = omega (arith, cycles, layout.short);
    }
      where
        width : due1.width ≡ due.width
        width = ap (λ (m : Marked). m.width) de

        cycles : length due1.rows ≡ length due.rows
        cycles = ap (λ (m : Marked). length m.rows) de ∙ length-set due.rows t _

    -- and there is no state of a cell that isn't there
    pub bounded_stored : (states1 : ℕ → ℕ → Option State) (due1 : Marked) (b : Bool) (o : Option State) → due1 ≡ record { width = due.width; rows = set due.rows t (set (marks_at due.rows t) c b) } → ((u d : ℕ) → states1 u d ≡ cond ((eqb u t) && (eqb d c)) o (states u d)) → IsBounded states1 due1.width (length due1.rows)
    bounded_stored states1 due1 b o de other = record {
      cycles = λ u d h. (
          let past : length due.rows ≤ u = omega (arith, h, cycles) in
          other u d
          ∙ ap (λ x. cond (x && (eqb d c)) o (states u d)) (ne_eqb u t (λ p. absurd (omega (arith, past, p, there))))
          ∙ bounded.cycles u d past);
      components = λ u d h. (
          let past : due.width ≤ d = omega (arith, h, width) in
          other u d
          ∙ ap (λ x. cond x o (states u d)) (and_right (eqb u t) (eqb d c) (ne_eqb d c (λ p. absurd (omega (arith, past, p, inside)))))
          ∙ bounded.components u d past);
    }
      where
        width : due1.width ≡ due.width
        width = ap (λ (m : Marked). m.width) de

        cycles : length due1.rows ≡ length due.rows
        cycles = ap (λ (m : Marked). length m.rows) de ∙ length-set due.rows t _

    -- a state is stored
    pub stored_cell : (states1 : ℕ → ℕ → Option State) (due1 : Marked) (o : Option State) → due1 ≡ record { width = due.width; rows = set due.rows t (set (marks_at due.rows t) c false) } → ((u d : ℕ) → states1 u d ≡ cond ((eqb u t) && (eqb d c)) o (states u d)) → IsOtherCell rows (rows_of states1 due1 versions) t c (cleared o)
    stored_cell states1 due1 o de other =
        other_cell states due versions rows e states1 due1 versions t c (cleared o) bounded layout (bounded_stored states1 due1 false o de other) (layout_stored due1 false de) (ap (λ (m : Marked). m.width) de) (ap (λ (m : Marked). length m.rows) de ∙ length-set due.rows t _) (λ u d. at u d)
      where
        at : (u d : ℕ) → kept_at states1 due1 versions u d ≡ cond ((eqb u t) && (eqb d c)) (cleared o) (kept_at states due versions u d)
        at u d =
            ap (λ (s : Option State). kept s (has_mark due1.rows u d) (version_at versions u d)) (other u d)
            ∙ ap (λ (b : Bool). kept (cond ((eqb u t) && (eqb d c)) o (states u d)) b (version_at versions u d)) (ap (λ (m : Marked). has_mark m.rows u d) de ∙ marks_after false u d)
            ∙ ap (λ (v : ℕ). kept (cond ((eqb u t) && (eqb d c)) o (states u d)) (cond ((eqb u t) && (eqb d c)) false (has_mark due.rows u d)) v) (same_at (version_at versions) t c u d)
            ∙ three ((eqb u t) && (eqb d c)) (states u d) o (has_mark due.rows u d) false (version_at versions u d) (version_at versions t c)

    -- the state of the cell is kept
    pub kept_other : (u d : ℕ) → states u d ≡ cond ((eqb u t) && (eqb d c)) (held_at rows t c).state (states u d)
    kept_other u d = same_at states t c u d ∙ ap (λ s. cond ((eqb u t) && (eqb d c)) s (states u d)) (sym (seen_state states due versions rows e bounded layout t c))

  module _ (states : ℕ → ℕ → Option State) (due : Marked) (versions : List (List ℕ)) (bounded : IsBounded states due.width (length due.rows)) (layout : IsLayout due versions) (rows : List (List (Held State))) (e : rows_of states due versions ≡ rows) where
    same_lengths : (t : ℕ) → length (row_at rows t) ≡ length (marks_at due.rows t)
    same_lengths t = by_cycle (cases_lt t (length due.rows))
      where
        by_cycle : (t < length due.rows) ⊎ (length due.rows ≤ t) → length (row_at rows t) ≡ length (marks_at due.rows t)
        by_cycle (inl h) = seen_length states due versions rows e t h ∙ sym (layout.marks t h)
        by_cycle (inr h) = ap (λ r. length (row_at r t)) (sym e) ∙ lens_past states due versions t h ∙ sym (ap length (get_or_past due.rows t [] h))

    -- the marks of a row are its due cells
    pub count_row : (t : ℕ) → count_in (marks_at due.rows t) ≡ due_in_row (row_at rows t)
    count_row t =
        sym (sums_same (λ (k : Held State). cond k.is_due 1 0) (λ b. cond b 1 0) (row_at rows t) (marks_at due.rows t) nothing false (same_lengths t) (λ c h. ap (λ b. cond b 1 0) (seen_due states due versions rows e bounded layout t c)))

    pub count_rows : (n : ℕ) → count_of (take n due.rows) ≡ due_up_to rows n
    count_rows n =
        sym (sums_same due_in_row count_in (take n rows) (take n due.rows) [] [] (length-take n rows ∙ ap (min n) (seen_cycles states due versions rows e) ∙ sym (length-take n due.rows)) (λ t h. each t (omega (arith, h, length-take n rows))))
      where
        each : (t : ℕ) → t < n → due_in_row (get_or (take n rows) t []) ≡ count_in (get_or (take n due.rows) t [])
        each t h = ap due_in_row (get_or-take n rows t [] h) ∙ sym (count_row t) ∙ ap count_in (sym (get_or-take n due.rows t [] h))

    pub count_all : count_of due.rows ≡ due_up_to rows (length rows)
    count_all = sym (ap count_of (take_all (length rows) due.rows (omega (arith, seen_cycles states due versions rows e)))) ∙ count_rows (length rows)

  -- the same states
  pub same_states : (states states1 : ℕ → ℕ → Option State) (due : Marked) (versions : List (List ℕ)) (rows : List (List (Held State))) → IsBounded states due.width (length due.rows) → IsLayout due versions → rows_of states due versions ≡ rows → ((u d : ℕ) → states1 u d ≡ states u d) → rows_of states1 due versions ≡ rows
  same_states states states1 due versions rows bounded layout e same =
      same_cells states due versions rows e states1 due versions bounded layout refl refl (λ u d. ap (λ (o : Option State). kept o (has_mark due.rows u d) (version_at versions u d)) (same u d))

  -- new cells
  pub rows_new : (states : ℕ → ℕ → Option State) (due : Marked) (versions : List (List ℕ)) (w n v : ℕ) → due ≡ record { width = w; rows = replicate n (replicate w true) } → versions ≡ replicate n (replicate w v) → ((t c : ℕ) → t < n → c < w → states t c ≡ None) → rows_of states due versions ≡ replicate n (replicate w (fresh v))
  rows_new states due versions w n v de ve none =
      sym (rows_are (replicate n (replicate w (fresh v))) states due versions (length-replicate n _ ∙ sym cycles) (λ t h. lens t (omega (arith, h, cycles))) (λ t c h k. at t c (omega (arith, h, cycles)) (omega (arith, k, width))))
    where
      width : due.width ≡ w
      width = ap (λ (m : Marked). m.width) de

      cycles : length due.rows ≡ n
      cycles = ap (λ (m : Marked). length m.rows) de ∙ length-replicate n _

      row : {X : Type 0} (x : X) (t : ℕ) → t < n → get_or (replicate n (replicate w x)) t [] ≡ replicate w x
      row x t h = get_or-replicate n t (replicate w x) [] h

      lens : (t : ℕ) → t < n → length (row_at (replicate n (replicate w (fresh {State = State} v))) t) ≡ due.width
      lens t h = ap length (row (fresh v) t h) ∙ length-replicate w _ ∙ sym width

      at : (t c : ℕ) → t < n → c < w → held_at (replicate n (replicate w (fresh v))) t c ≡ kept_at states due versions t c
      at t c h k =
          ap (λ r. held_in r c) (row (fresh v) t h) ∙ get_or-replicate w c (fresh v) nothing k
          ∙ ap (λ (s : Option State). kept s true v) (sym (none t c h k))
          ∙ ap (λ (b : Bool). kept (states t c) b v) (sym (ap (λ (m : Marked). has_mark m.rows t c) de ∙ ap (λ r. get_or r c false) (row true t h) ∙ get_or-replicate w c true false k))
          ∙ ap (λ (x : ℕ). kept (states t c) (has_mark due.rows t c) x) (sym (ap (λ vs. version_at vs t c) ve ∙ ap (λ r. get_or r c 0) (row v t h) ∙ get_or-replicate w c v 0 k))

  -- fewer cycles
  pub rows_cut : (states states1 : ℕ → ℕ → Option State) (due due1 : Marked) (versions versions1 : List (List ℕ)) (rows : List (List (Held State))) (n : ℕ) → IsBounded states due.width (length due.rows) → IsLayout due versions → rows_of states due versions ≡ rows → due1 ≡ record { width = due.width; rows = take n due.rows } → versions1 ≡ take n versions → ((t c : ℕ) → t < n → states1 t c ≡ states t c) → rows_of states1 due1 versions1 ≡ take n rows
  rows_cut states states1 due due1 versions versions1 rows n bounded layout e de ve same =
      sym (rows_are (take n rows) states1 due1 versions1 (length-take n rows ∙ ap (min n) (seen_cycles states due versions rows e) ∙ sym cycles) (λ t h. lens t (before t h) (within t h)) (λ t c h k. at t c (before t h) (within t h)))
    where
      cycles : length due1.rows ≡ min n (length due.rows)
      cycles = ap (λ (m : Marked). length m.rows) de ∙ length-take n due.rows

      before : (t : ℕ) → t < length due1.rows → t < n
      before t h = omega (arith, h, cycles)

      within : (t : ℕ) → t < length due1.rows → t < length due.rows
      within t h = omega (arith, h, cycles)

      lens : (t : ℕ) → t < n → t < length due.rows → length (row_at (take n rows) t) ≡ due1.width
      lens t h k = ap length (get_or-take n rows t [] h) ∙ seen_length states due versions rows e t k ∙ sym (ap (λ (m : Marked). m.width) de)

      at : (t c : ℕ) → t < n → t < length due.rows → held_at (take n rows) t c ≡ kept_at states1 due1 versions1 t c
      at t c h k =
          ap (λ r. held_in r c) (get_or-take n rows t [] h) ∙ seen states due versions rows e bounded layout t c
          ∙ ap (λ (s : Option State). kept s (has_mark due.rows t c) (version_at versions t c)) (sym (same t c h))
          ∙ ap (λ (b : Bool). kept (states1 t c) b (version_at versions t c)) (sym (ap (λ (m : Marked). has_mark m.rows t c) de ∙ ap (λ r. get_or r c false) (get_or-take n due.rows t [] h)))
          ∙ ap (λ (x : ℕ). kept (states1 t c) (has_mark due1.rows t c) x) (sym (ap (λ vs. version_at vs t c) ve ∙ ap (λ r. get_or r c 0) (get_or-take n versions t [] h)))

  -- more cycles
  module _ (states states1 : ℕ → ℕ → Option State) (due due1 : Marked) (versions versions1 : List (List ℕ)) (rows : List (List (Held State))) (m v : ℕ) (bounded : IsBounded states due.width (length due.rows)) (layout : IsLayout due versions) (e : rows_of states due versions ≡ rows) (de : due1 ≡ record { width = due.width; rows = due.rows ++ replicate m (replicate due.width true) }) (ve : versions1 ≡ versions ++ replicate m (replicate due.width v)) (state_before : (t c : ℕ) → t < length due.rows → c < due.width → states1 t c ≡ states t c) (state_behind : (t c : ℕ) → length due.rows ≤ t → t < length due.rows + m → c < due.width → states1 t c ≡ None) where
    width_more : due1.width ≡ due.width
    width_more = ap (λ (k : Marked). k.width) de

    cycles_more : length due1.rows ≡ length due.rows + m
    cycles_more = ap (λ (k : Marked). length k.rows) de ∙ length-append due.rows _ ∙ ap (λ k. length due.rows + k) (length-replicate m _)

    row_before : {X : Type 0} (xs : List (List X)) (x : X) (t : ℕ) → length xs ≡ length due.rows → t < length due.rows → get_or (xs ++ replicate m (replicate due.width x)) t [] ≡ get_or xs t []
    row_before xs x t l h = get_or_append_left xs _ [] t (omega (arith, l, h))

    row_behind : {X : Type 0} (xs : List (List X)) (x : X) (t : ℕ) → length xs ≡ length due.rows → length due.rows ≤ t → t < length due.rows + m → get_or (xs ++ replicate m (replicate due.width x)) t [] ≡ replicate due.width x
    row_behind xs x t l h k = get_or-append_right xs _ (length due.rows) t [] l h ∙ get_or-replicate m (t - length due.rows) (replicate due.width x) [] (omega (arith, h, k))

    marks_more : (t : ℕ) → marks_at due1.rows t ≡ marks_at (due.rows ++ replicate m (replicate due.width true)) t
    marks_more t = ap (λ (k : Marked). marks_at k.rows t) de

    versions_more : (t : ℕ) → get_or versions1 t [] ≡ get_or (versions ++ replicate m (replicate due.width v)) t []
    versions_more t = ap (λ vs. get_or vs t []) ve

    pub layout_more : length due.rows + m < 2 ^ 32 → IsLayout due1 versions1
    layout_more fits = record {
      marks = λ t h. ap length (marks_more t) ∙ by_cycle due.rows true t refl layout.marks (omega (arith, h, cycles_more)) ∙ sym width_more;
      rows = ap length ve ∙ length-append versions _ ∙ omega (arith, layout.rows, length-replicate m (replicate due.width v), cycles_more);
      numbers = λ t h. ap length (versions_more t) ∙ by_cycle versions v t layout.rows layout.numbers (omega (arith, h, cycles_more)) ∙ sym width_more;
      few = omega (arith, layout.few, width_more);
      short = omega (arith, fits, cycles_more);
    }
      where
        by_cycle : {X : Type 0} (xs : List (List X)) (x : X) (t : ℕ) → length xs ≡ length due.rows → ((u : ℕ) → u < length due.rows → length (get_or xs u []) ≡ due.width) → t < length due.rows + m → length (get_or (xs ++ replicate m (replicate due.width x)) t []) ≡ due.width
        by_cycle {X} xs x t l lens h = by_place (cases_lt t (length due.rows))
          where
            by_place : (t < length due.rows) ⊎ (length due.rows ≤ t) → length (get_or (xs ++ replicate m (replicate due.width x)) t []) ≡ due.width
            by_place (inl k) = ap length (row_before xs x t l k) ∙ lens t k
            by_place (inr k) = ap length (row_behind xs x t l k h) ∙ length-replicate due.width x

    pub rows_more : 0 < length rows → rows_of states1 due1 versions1 ≡ rows ++ replicate m (replicate (length (row_at rows 0)) (fresh v))
    rows_more some =
        subst (λ k. rows_of states1 due1 versions1 ≡ rows ++ replicate m (replicate k (fresh v))) (sym (seen_length states due versions rows e 0 (omega (arith, some, cycles)))) at_width
      where
        cycles : length rows ≡ length due.rows
        cycles = seen_cycles states due versions rows e

        lens : (t : ℕ) → t < length due.rows + m → (t < length due.rows) ⊎ (length due.rows ≤ t) → length (row_at (rows ++ replicate m (replicate due.width (fresh v))) t) ≡ due1.width
        lens t h (inl k) = ap length (row_before rows (fresh v) t cycles k) ∙ seen_length states due versions rows e t k ∙ sym width_more
        lens t h (inr k) = ap length (row_behind rows (fresh v) t cycles k h) ∙ length-replicate due.width _ ∙ sym width_more

        at : (t c : ℕ) → t < length due.rows + m → c < due.width → (t < length due.rows) ⊎ (length due.rows ≤ t) → held_at (rows ++ replicate m (replicate due.width (fresh v))) t c ≡ kept_at states1 due1 versions1 t c
        at t c h i (inl k) =
            ap (λ r. held_in r c) (row_before rows (fresh v) t cycles k) ∙ seen states due versions rows e bounded layout t c
            ∙ ap (λ (s : Option State). kept s (has_mark due.rows t c) (version_at versions t c)) (sym (state_before t c k i))
            ∙ ap (λ (b : Bool). kept (states1 t c) b (version_at versions t c)) (sym (ap (λ r. get_or r c false) (marks_more t ∙ row_before due.rows true t refl k)))
            ∙ ap (λ (x : ℕ). kept (states1 t c) (has_mark due1.rows t c) x) (sym (ap (λ r. get_or r c 0) (versions_more t ∙ row_before versions v t layout.rows k)))
        at t c h i (inr k) =
            ap (λ r. held_in r c) (row_behind rows (fresh v) t cycles k h) ∙ get_or-replicate due.width c (fresh v) nothing i
            ∙ ap (λ (s : Option State). kept s true v) (sym (state_behind t c k h i))
            ∙ ap (λ (b : Bool). kept (states1 t c) b v) (sym (ap (λ r. get_or r c false) (marks_more t ∙ row_behind due.rows true t refl k h) ∙ get_or-replicate due.width c true false i))
            ∙ ap (λ (x : ℕ). kept (states1 t c) (has_mark due1.rows t c) x) (sym (ap (λ r. get_or r c 0) (versions_more t ∙ row_behind versions v t layout.rows k h) ∙ get_or-replicate due.width c v 0 i))

        at_width : rows_of states1 due1 versions1 ≡ rows ++ replicate m (replicate due.width (fresh v))
        at_width =
            sym (rows_are (rows ++ replicate m (replicate due.width (fresh v))) states1 due1 versions1 (length-append rows _ ∙ omega (arith, cycles, cycles_more, length-replicate m (replicate due.width (fresh {State = State} v)))) (λ t h. lens t (omega (arith, h, cycles_more)) (cases_lt t (length due.rows))) (λ t c h k. at t c (omega (arith, h, cycles_more)) (omega (arith, k, width_more)) (cases_lt t (length due.rows))))
