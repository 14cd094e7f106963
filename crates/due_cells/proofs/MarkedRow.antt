-- Cells of a row that are marked together.
use Rattle.std.proofs.Common.{◌≡◌, ℕ, zero, suc, ◌<◌, ◌≤◌, ◌∙◌, sym, ap, refl, arith, Bool, true, false, cond, eqb, leb, ltb, not, eq-eqb, ◌&&◌, ◌||◌, ◌⊎◌, inl, inr, List, [], ◌∷◌, length, get_or, replicate, take, ◌+◌, Option}
use Rattle.std.proofs.Math.ListN.{set, length-set}
use Rattle.std.proofs.lemmas.Bool.{cases_lt, cases_eq, ne_eqb, eqb-true, and_parts, lt-ltb, le-ltb}
use Rattle.std.proofs.lemmas.List.{get_or-set_same, get_or-set_other, get_or_past, get_or-replicate, length-replicate}
use Rattle.std.proofs.lemmas.List.FromFn.{length-map-range_with_len, get_or-map-range_with_len}
use Rattle.std.proofs.lemmas.List.Folds.{list_any_more}
use Rattle.cell_marks.specs.Marked.{Marked, is_set, union, row_at as marks_at, has as has_mark}
use Rattle.due_cells.specs.Seen.{Held, nothing, fresh, row_at, held_in, held_at, marked}
use Rattle.cell_states.specs.Versions.{version_at}
use Rattle.due_cells.specs.Layout.{kept, rows_of, IsLayout, IsBounded}
use Rattle.cell_states.specs.declared.cell.CellRange.{CellRange}
use Rattle.due_cells.specs.Ranges.{GoesOn, covers, is_later, has_later, is_marked, is_marked_else, held_marked}
use Rattle.due_cells.proofs.Joined.{range_on}
use Rattle.due_cells.proofs.Keeping.{seen_length, held_kept, length_row, lens_past, bounded_along}

-- a mark of a union
is_set_union : (a b : List Bool) (c : ℕ) → length b ≡ length a → is_set (union a b) c ≡ (is_set a c || is_set b c)
is_set_union a b c l = by_place (cases_lt c (length a))
  where
    by_place : (c < length a) ⊎ (length a ≤ c) → is_set (union a b) c ≡ (is_set a c || is_set b c)
    by_place (inl h) = get_or-map-range_with_len (λ c. is_set a c || is_set b c) 0 (length a) c c false h (omega arith)
    by_place (inr h) =
        get_or_past (union a b) c false (omega (arith, length-map-range_with_len (λ c. is_set a c || is_set b c) 0 (length a)))
        ∙ sym (ap (λ v. v || is_set b c) (get_or_past a c false h) ∙ get_or_past b c false (omega (arith, l, h)))

length_union : (a b : List Bool) → length (union a b) ≡ length a
length_union a b = length-map-range_with_len (λ c. is_set a c || is_set b c) 0 (length a)

module _ (rows : List (List Bool)) (t : ℕ) (row : List Bool) (there : t < length rows) (wide : length row ≡ length (marks_at rows t)) where
  abbrev joined : List (List Bool)
  joined = set rows t (union (marks_at rows t) row)

  pub has_joined : (u d : ℕ) → has_mark joined u d ≡ (has_mark rows u d || ((eqb u t) && is_set row d))
  has_joined u d = by_row (cases_eq u t)
    where
      or_false : (b : Bool) → b ≡ (b || false)
      or_false true = refl
      or_false false = refl

      by_row : (u ≡ t) ⊎ (u ≡ t → ⊥) → has_mark joined u d ≡ (has_mark rows u d || ((eqb u t) && is_set row d))
      by_row (inl p) =
          rw (eq-eqb u t p) (ap (λ i. get_or (get_or joined i []) d false) p ∙ ap (λ r. get_or r d false) (get_or-set_same rows t _ [] there) ∙ is_set_union (marks_at rows t) row d wide ∙ ap (λ i. has_mark rows i d || is_set row d) (sym p))
      by_row (inr p) = rw (ne_eqb u t p) (ap (λ r. get_or r d false) (get_or-set_other rows t u _ [] p) ∙ or_false (has_mark rows u d))

  pub length_joined : (u : ℕ) → length (marks_at joined u) ≡ length (marks_at rows u)
  length_joined u = by_row (cases_eq u t)
    where
      by_row : (u ≡ t) ⊎ (u ≡ t → ⊥) → length (marks_at joined u) ≡ length (marks_at rows u)
      by_row (inl p) =
          ap (λ i. length (get_or joined i [])) p ∙ ap length (get_or-set_same rows t _ [] there) ∙ length_union (marks_at rows t) row ∙ ap (λ i. length (marks_at rows i)) (sym p)
      by_row (inr p) = ap length (get_or-set_other rows t u _ [] p)

module _ {State : Type 0} where
  module _ (states : ℕ → ℕ → Option State) (due due1 : Marked) (versions versions1 : List (List ℕ)) (bounded : IsBounded states due.width (length due.rows)) (layout : IsLayout due versions) (rows : List (List (Held State))) (e : rows_of states due versions ≡ rows) (t : ℕ) (row : List Bool) (version : ℕ) (there : t < length due.rows) (wide : length row ≡ length (marks_at due.rows t)) (joins : due1 ≡ record { width = due.width; rows = set due.rows t (union (marks_at due.rows t) row) }) (len : length versions1 ≡ length versions) (lens : (u : ℕ) → length (get_or versions1 u []) ≡ length (get_or versions u [])) where
    cycles : length due1.rows ≡ length due.rows
    cycles = ap (λ (m : Marked). length m.rows) joins ∙ length-set due.rows t _

    width : due1.width ≡ due.width
    width = ap (λ (m : Marked). m.width) joins

    pub bounded_joined : IsBounded states due1.width (length due1.rows)
    bounded_joined = bounded_along states width cycles bounded

    pub layout_joined : IsLayout due1 versions1
    layout_joined = record {
      marks = λ u h. ap (λ (m : Marked). length (marks_at m.rows u)) joins ∙ length_joined due.rows t row there wide u ∙ layout.marks u (omega (arith, h, cycles)) ∙ sym width;
      rows = len ∙ layout.rows ∙ sym cycles;
      numbers = λ u h. lens u ∙ layout.numbers u (omega (arith, h, cycles)) ∙ sym width;
      few = omega (arith, layout.few, width);
      short = omega (arith, layout.short, cycles);
    }

    pub rows_lens : (u : ℕ) → length (row_at (rows_of states due1 versions1) u) ≡ length (row_at rows u)
    rows_lens u = by_cycle (cases_lt u (length due.rows))
      where
        by_cycle : (u < length due.rows) ⊎ (length due.rows ≤ u) → length (row_at (rows_of states due1 versions1) u) ≡ length (row_at rows u)
        by_cycle (inl k) = length_row states due1 versions1 u (omega (arith, k, cycles)) ∙ width ∙ sym (seen_length states due versions rows e u k)
        by_cycle (inr k) = lens_past states due1 versions1 u (omega (arith, k, cycles)) ∙ sym (ap (λ r. length (row_at r u)) (sym e) ∙ lens_past states due versions u k)

    -- what is held then for each cell
    pub joined_row : (u c : ℕ) → held_at (rows_of states due1 versions1) u c ≡ kept (states u c) (has_mark due.rows u c || ((eqb u t) && is_set row c)) (version_at versions1 u c)
    joined_row u c =
        held_kept states due1 versions1 bounded_joined layout_joined u c
        ∙ ap (λ b. kept (states u c) b (version_at versions1 u c)) (ap (λ (m : Marked). has_mark m.rows u c) joins ∙ has_joined due.rows t row there wide u c)

abbrev pub none_range : CellRange
none_range = record { component = 0; from = 0; to = 0 }

pub or_assoc : (a b c : Bool) → ((a || b) || c) ≡ (a || (b || c))
or_assoc true b c = refl
or_assoc false b c = refl

-- one range more
pub later_range_more : (ranges : List CellRange) (i to c : ℕ) → i < length ranges → (has_later (take i ranges) to c || (is_later to (get_or ranges i none_range) && eqb c (get_or ranges i none_range).component)) ≡ has_later (take (i + 1) ranges) to c
later_range_more ranges i to c h = sym (list_any_more (λ r. is_later to r && eqb c r.component) ranges i none_range h)

-- the ranges that have all later cycles, and the others
module _ (to t c : ℕ) where
  abbrev within : Bool
  within = leb 1 t && ltb t to

  mix_true : (k w h r : Bool) → ((k && w) || ((h && w) || r)) ≡ ((((true && k) || h) && w) || ((not true && (k && w)) || r))
  mix_true true true true r = refl
  mix_true true true false r = refl
  mix_true true false true r = refl
  mix_true true false false r = refl
  mix_true false w h r = refl

  mix_false : (k x w h r : Bool) → (x || ((h && w) || r)) ≡ ((((false && k) || h) && w) || ((not false && x) || r))
  mix_false k true true true r = refl
  mix_false k true true false r = refl
  mix_false k true false true r = refl
  mix_false k true false false r = refl
  mix_false k false w h r = refl

  mix : (b k x w h r : Bool) → (b ≡ true → x ≡ (k && w)) → (x || ((h && w) || r)) ≡ ((((b && k) || h) && w) || ((not b && x) || r))
  mix true k x w h r e = rw (e refl) (mix_true k w h r)
  mix false k x w h r e = mix_false k x w h r

  covers_later : (r : CellRange) → is_later to r ≡ true → covers r t c ≡ ((eqb c r.component) && within)
  covers_later r e =
      let parts = and_parts (eqb r.from 1) (eqb r.to to) e in
      ap (λ n. (eqb c r.component) && (leb n t && ltb t r.to)) (eqb-true r.from 1 parts.0) ∙ ap (λ n. (eqb c r.component) && (leb 1 t && ltb t n)) (eqb-true r.to to parts.1)

  pub marked_apart : (ranges : List CellRange) → is_marked ranges t c ≡ ((has_later ranges to c && within) || is_marked_else ranges to t c)
  marked_apart [] = refl
  marked_apart (r ∷ rs) =
      ap (λ b. covers r t c || b) (marked_apart rs)
      ∙ mix (is_later to r) (eqb c r.component) (covers r t c) within (has_later rs to c) (is_marked_else rs to t c) (covers_later r)

  -- once cycles of new cells were added
  pub grown_marked : {State : Type 0} (rows mids : List (List (Held State))) (ranges : List CellRange) (v : ℕ) → row_at mids t ≡ cond (ltb t (length rows)) (row_at rows t) (replicate (length (row_at rows 0)) (fresh v)) → c < length (row_at rows 0) → cond (is_marked ranges t c) (marked (held_at mids t c) v) (held_at mids t c) ≡ held_marked rows ranges v t c
  grown_marked {State = State} rows mids ranges v grown inside = by_cycle (ltb t (length rows)) grown
    where
      fresh_marked : (b : Bool) → cond b (marked (fresh v) v) (fresh {State = State} v) ≡ fresh v
      fresh_marked true = refl
      fresh_marked false = refl

      by_cycle : (b : Bool) → row_at mids t ≡ cond b (row_at rows t) (replicate (length (row_at rows 0)) (fresh v)) → cond (is_marked ranges t c) (marked (held_at mids t c) v) (held_at mids t c) ≡ cond b (cond (is_marked ranges t c) (marked (held_at rows t c) v) (held_at rows t c)) (fresh v)
      by_cycle true e = ap (λ row. cond (is_marked ranges t c) (marked (held_in row c) v) (held_in row c)) e
      by_cycle false e =
          ap (λ k. cond (is_marked ranges t c) (marked k v) k) (ap (λ row. held_in row c) e ∙ get_or-replicate (length (row_at rows 0)) c (fresh v) nothing inside)
          ∙ fresh_marked (is_marked ranges t c)

-- the rows are as wide then
pub grown_whole : {State : Type 0} (rows mids : List (List (Held State))) (v count t : ℕ) → row_at mids t ≡ cond (ltb t (length rows)) (row_at rows t) (replicate (length (row_at rows 0)) (fresh v)) → 0 < length rows → ((t : ℕ) → t < length rows → length (row_at rows t) ≡ count) → length (row_at mids t) ≡ count
grown_whole rows mids v count t grown some whole = ap length grown ∙ by_place (cases_lt t (length rows))
  where
    by_place : (t < length rows) ⊎ (length rows ≤ t) → length (cond (ltb t (length rows)) (row_at rows t) (replicate (length (row_at rows 0)) (fresh v))) ≡ count
    by_place (inl h) = ap (λ b. length (cond b (row_at rows t) (replicate (length (row_at rows 0)) (fresh v)))) (lt-ltb t (length rows) h) ∙ whole t h
    by_place (inr h) =
        ap (λ b. length (cond b (row_at rows t) (replicate (length (row_at rows 0)) (fresh v)))) (le-ltb t (length rows) h)
        ∙ length-replicate (length (row_at rows 0)) (fresh v)
        ∙ whole 0 some

-- a range that goes on from another one
pub and_true : (a : Bool) → a ≡ (a && true)
and_true true = refl
and_true false = refl

or_swap : (a r b : Bool) → ((a || r) || b) ≡ ((a || b) || r)
or_swap true r b = refl
or_swap false true true = refl
or_swap false true false = refl
or_swap false false true = refl
or_swap false false false = refl

pub covers_joined : (last range : CellRange) (t c : ℕ) → GoesOn last range → covers (record { component = last.component; from = last.from; to = range.to }) t c ≡ (covers last t c || covers range t c)
covers_joined last range t c goes_on =
    let k = eqb c last.component in
    let one = k && (leb last.from t && ltb t last.to) in
    let other = k && (leb last.to t && ltb t range.to) in
    let up : last.to ≤ range.to = omega (arith, goes_on.1, goes_on.3) in
    and_true (k && (leb last.from t && ltb t range.to))
    ∙ sym (range_on false k t last.from last.to range.to true true goes_on.2 up (λ h l. refl))
    ∙ ap (λ b. b || (other && true)) (sym (and_true one))
    ∙ ap (λ b. one || b) (sym (and_true other))
    ∙ ap (λ n. one || ((eqb c n) && (leb last.to t && ltb t range.to))) goes_on.0
    ∙ ap (λ n. one || ((eqb c range.component) && (leb n t && ltb t range.to))) goes_on.1

pub marked_joined : (t c : ℕ) (ranges : List CellRange) (i : ℕ) (range joined : CellRange) → i < length ranges → covers joined t c ≡ (covers (get_or ranges i none_range) t c || covers range t c) → is_marked (set ranges i joined) t c ≡ (is_marked ranges t c || covers range t c)
marked_joined t c [] i range joined h e = absurd (omega (arith, h))
marked_joined t c (r ∷ rs) zero range joined h e = ap (λ b. b || is_marked rs t c) e ∙ or_swap (covers r t c) (covers range t c) (is_marked rs t c)
marked_joined t c (r ∷ rs) (suc i) range joined h e = ap (λ b. covers r t c || b) (marked_joined t c rs i range joined (omega (arith, h)) e) ∙ sym (or_assoc (covers r t c) (is_marked rs t c) (covers range t c))
