-- Cells that become due with one version, one set after another.
use Rattle.std.proofs.Common.{◌≡◌, ℕ, ◌<◌, ◌≤◌, ◌∙◌, sym, ap, refl, arith, Bool, true, false, cond, eqb, eq-eqb, ◌&&◌, ◌||◌, ◌⊎◌, inl, inr, Option, List, [], ◌∷◌, length, get_or, All}
use Rattle.std.proofs.Math.Bool.{or-false}
use Rattle.std.proofs.lemmas.Bool.{cases_lt, cases_eq, ne_eqb, true≢false, eqb-true, and_parts, or_cases, or_right}
use Rattle.std.proofs.lemmas.List.{get_or_past}
use Rattle.std.specs.List.{AllByRecursion}
use Rattle.std.proofs.lemmas.List.Elements.{recursion_from_All}
use Rattle.cell_marks.specs.Marked.{Marked, count_in, row_at as marks_at, has as has_mark}
use Rattle.cell_states.specs.Versions.{VersionRow, lists, room_at, version_at, IsOtherRow}
use Rattle.cell_states.specs.Near.{has}
use Rattle.cell_states.specs.declared.cell.CellRange.{CellRange}
use Rattle.due_cells.specs.Ranges.{is_later, has_later}
use Rattle.due_cells.specs.Seen.{Held, row_at, held_at, marked}
use Rattle.due_cells.specs.Layout.{kept, rows_of, IsLayout, IsBounded}
use Rattle.due_cells.specs.Marking.{IsReady, AreMarked}
use Rattle.due_cells.proofs.Keeping.{seen, seen_cycles, seen_length, held_kept, length_rows, length_row, lens_past, bounded_along}
use Rattle.due_cells.proofs.MarkedRow.{or_assoc}
use Rattle.due_cells.proofs.Noted.{none_counted}

module _ (v : ℕ) where
  -- none
  pub marked_none : (due : Marked) (versions : List VersionRow) → IsLayout due (lists versions) → AreMarked v due versions due versions (λ t c. false)
  marked_none due versions layout = record {
    layout = layout;
    width = refl;
    cycles = refl;
    due = λ t c. sym (or-false (has_mark due.rows t c));
    version = λ t c m. refl;
    rooms = λ t. refl;
  }

  -- some, and then others
  pub marked_then : (due due1 due2 : Marked) (versions versions1 versions2 : List VersionRow) (m n o : ℕ → ℕ → Bool) → AreMarked v due versions due1 versions1 m → AreMarked v due1 versions1 due2 versions2 n → ((t c : ℕ) → (m t c || n t c) ≡ o t c) → AreMarked v due versions due2 versions2 o
  marked_then due due1 due2 versions versions1 versions2 m n o a b e = record {
    layout = b.layout;
    width = b.width ∙ a.width;
    cycles = b.cycles ∙ a.cycles;
    due = λ t c. b.due t c ∙ ap (λ x. x || n t c) (a.due t c) ∙ or_assoc (has_mark due.rows t c) (m t c) (n t c) ∙ ap (λ x. has_mark due.rows t c || x) (e t c);
    version = λ t c k. version t c k (n t c) refl;
    rooms = λ t. b.rooms t ∙ a.rooms t;
  }
    where
      version : (t c : ℕ) → has_mark due2.rows t c ≡ true → (x : Bool) → n t c ≡ x → version_at (lists versions2) t c ≡ cond (o t c) v (version_at (lists versions) t c)
      version t c k true p =
          b.version t c k
          ∙ ap (λ y. cond y v (version_at (lists versions1) t c)) p
          ∙ ap (λ y. cond y v (version_at (lists versions) t c)) (sym (sym (e t c) ∙ ap (λ y. m t c || y) p ∙ or_right (m t c) true refl))
      version t c k false p =
          b.version t c k
          ∙ ap (λ y. cond y v (version_at (lists versions1) t c)) p
          ∙ a.version t c (sym (b.due t c ∙ ap (λ y. has_mark due1.rows t c || y) p ∙ or-false (has_mark due1.rows t c)) ∙ k)
          ∙ ap (λ y. cond y v (version_at (lists versions) t c)) (sym (or-false (m t c)) ∙ ap (λ y. m t c || y) (sym p) ∙ e t c)

  -- what could be marked still can
  pub ready_kept : (due due1 : Marked) (versions versions1 : List VersionRow) (m : ℕ → ℕ → Bool) → IsLayout due (lists versions) → AreMarked v due versions due1 versions1 m → (t : ℕ) → t < length due.rows → IsReady v due versions t → IsReady v due1 versions1 t
  ready_kept due due1 versions versions1 m layout a t there (inl room) =
      inl (omega (arith, room, a.rooms t, layout.numbers t there, a.layout.numbers t (omega (arith, there, a.cycles)), a.width))
  ready_kept due due1 versions versions1 m layout a t there (inr all) = inr (λ c k. version c k (m t c) refl)
    where
      version : (c : ℕ) → has_mark due1.rows t c ≡ true → (x : Bool) → m t c ≡ x → version_at (lists versions1) t c ≡ v
      version c k true p = a.version t c k ∙ ap (λ y. cond y v (version_at (lists versions) t c)) p
      version c k false p =
          a.version t c k
          ∙ ap (λ y. cond y v (version_at (lists versions) t c)) p
          ∙ all c (sym (a.due t c ∙ ap (λ y. has_mark due.rows t c || y) p ∙ or-false (has_mark due.rows t c)) ∙ k)

-- a row whose versions are the same
pub same_over : (versions news : List VersionRow) (t : ℕ) → IsOtherRow versions news t → ((c : ℕ) → version_at (lists news) t c ≡ version_at (lists versions) t c) → (u c : ℕ) → version_at (lists news) u c ≡ version_at (lists versions) u c
same_over versions news t row same u c = by_cycle (cases_eq u t)
  where
    by_cycle : (u ≡ t) ⊎ (u ≡ t → ⊥) → version_at (lists news) u c ≡ version_at (lists versions) u c
    by_cycle (inl e) = ap (λ i. version_at (lists news) i c) e ∙ same c ∙ ap (λ i. version_at (lists versions) i c) (sym e)
    by_cycle (inr ne) = row.others u c ne

pub ready_over : (v : ℕ) (due : Marked) (versions news : List VersionRow) (t u : ℕ) → IsOtherRow versions news t → (u ≡ t → ⊥) → IsReady v due versions u → IsReady v due news u
ready_over v due versions news t u row ne (inl room) = inl (omega (arith, room, row.lens u, row.rooms u ne))
ready_over v due versions news t u row ne (inr all) = inr (λ c k. row.others u c ne ∙ all c k)

-- a row that is as it was
pub other_self : (versions : List VersionRow) (t : ℕ) → IsOtherRow versions versions t
other_self versions t = record { len = refl; lens = λ u. refl; others = λ u c ne. refl; rooms = λ u ne. refl }

-- where none is due
pub ready_idle : (v : ℕ) (due : Marked) (versions : List VersionRow) (t : ℕ) → count_in (marks_at due.rows t) ≤ 0 → IsReady v due versions t
ready_idle v due versions t none = inr (λ c k. absurd (true≢false (sym k ∙ none_counted (marks_at due.rows t) c (omega (arith, none)))))

-- a list that isn't empty has its first element
pub first_listed : (xs : List ℕ) → (xs ≡ [] → ⊥) → has xs (get_or xs 0 0) ≡ true
first_listed [] some = absurd (some refl)
first_listed (x ∷ xs) some = ap (λ b. b || has xs x) (eq-eqb x x refl)

-- where a range has all cycles from 1 on, none begins later
pub later_from : (ranges : List CellRange) (from to c : ℕ) → All (λ r. from ≤ r.from) ranges → has_later ranges to c ≡ true → from ≤ 1
later_from ranges from to c after h = go ranges (recursion_from_All (λ r. from ≤ r.from) ranges after) h
  where
    go : (ranges : List CellRange) → AllByRecursion (λ r. from ≤ r.from) ranges → has_later ranges to c ≡ true → from ≤ 1
    go [] all h = absurd (true≢false (sym h))
    go (r ∷ rs) all h = by_case (or_cases (is_later to r && eqb c r.component) (has_later rs to c) h) (go rs all.1)
      where
        by_case : ((is_later to r && eqb c r.component) ≡ true) ⊎ (has_later rs to c ≡ true) → (has_later rs to c ≡ true → from ≤ 1) → from ≤ 1
        by_case (inl e) others =
            let is : (eqb r.from 1 && eqb r.to to) ≡ true = (and_parts (is_later to r) (eqb c r.component) e).0 in
            let one : r.from ≡ 1 = eqb-true r.from 1 (and_parts (eqb r.from 1) (eqb r.to to) is).0 in
            omega (arith, all.0, one)
        by_case (inr e) others = others e

-- a cell that is marked is there
mark_there : (row : List Bool) (c : ℕ) → get_or row c false ≡ true → c < length row
mark_there row c m = by_place (cases_lt c (length row))
  where
    by_place : (c < length row) ⊎ (length row ≤ c) → c < length row
    by_place (inl h) = h
    by_place (inr h) = absurd (true≢false (sym m ∙ get_or_past row c false h))

-- cells of one cycle
module _ (v t : ℕ) (due due1 : Marked) (versions mid news : List VersionRow) (list : ℕ → Bool) (there : t < length due.rows) (layout : IsLayout due (lists versions)) (ready : IsReady v due versions t) (idle : IsOtherRow versions mid t) (idle_room : room_at mid t ≡ room_at versions t) (idle_due : (u c : ℕ) → has_mark due.rows u c ≡ true → version_at (lists mid) u c ≡ version_at (lists versions) u c) (row : IsOtherRow mid news t) (room : room_at news t ≡ room_at mid t) where
  pub cycle_marked : ((c : ℕ) → list c ≡ true → version_at (lists news) t c ≡ v) → (length (get_or (lists mid) t []) ≤ room_at mid t → (c : ℕ) → list c ≡ false → version_at (lists news) t c ≡ version_at (lists mid) t c) → ((c : ℕ) → c < length (get_or (lists mid) t []) → (version_at (lists news) t c ≡ version_at (lists mid) t c) ⊎ (version_at (lists news) t c ≡ v)) → due1.width ≡ due.width → length due1.rows ≡ length due.rows → ((u : ℕ) → length (marks_at due1.rows u) ≡ length (marks_at due.rows u)) → ((u c : ℕ) → has_mark due1.rows u c ≡ (has_mark due.rows u c || ((eqb u t) && list c))) → AreMarked v due versions due1 news (λ u c. (eqb u t) && list c)
  cycle_marked given others either width cycles lens is_due = record {
    layout = record {
      marks = λ u h. lens u ∙ layout.marks u (omega (arith, h, cycles)) ∙ sym width;
      rows = row.len ∙ idle.len ∙ layout.rows ∙ sym cycles;
      numbers = λ u h. row.lens u ∙ idle.lens u ∙ layout.numbers u (omega (arith, h, cycles)) ∙ sym width;
      few = omega (arith, layout.few, width);
      short = omega (arith, layout.short, cycles);
    };
    width = width;
    cycles = cycles;
    due = is_due;
    version = λ u c k. version u c k (cases_eq u t);
    rooms = λ u. rooms u (cases_eq u t);
  }
    where
      rooms : (u : ℕ) → (u ≡ t) ⊎ (u ≡ t → ⊥) → room_at news u ≡ room_at versions u
      rooms u (inl e) = ap (room_at news) e ∙ room ∙ idle_room ∙ ap (room_at versions) (sym e)
      rooms u (inr ne) = row.rooms u ne ∙ idle.rooms u ne

      by_ready : (c : ℕ) → list c ≡ false → has_mark due.rows t c ≡ true → IsReady v due versions t → version_at (lists news) t c ≡ version_at (lists versions) t c
      by_ready c p m (inl some) =
          others (omega (arith, some, idle.lens t, idle_room)) c p ∙ idle_due t c m
      by_ready c p m (inr all) = by_case (either c (omega (arith, mark_there (marks_at due.rows t) c m, idle.lens t, layout.marks t there, layout.numbers t there)))
        where
          by_case : (version_at (lists news) t c ≡ version_at (lists mid) t c) ⊎ (version_at (lists news) t c ≡ v) → version_at (lists news) t c ≡ version_at (lists versions) t c
          by_case (inl same) = same ∙ idle_due t c m
          by_case (inr got) = got ∙ sym (all c m)

      here : (c : ℕ) → has_mark due1.rows t c ≡ true → (x : Bool) → list c ≡ x → version_at (lists news) t c ≡ cond x v (version_at (lists versions) t c)
      here c k true p = given c p
      here c k false p =
          by_ready c p (sym (is_due t c ∙ ap (λ x. has_mark due.rows t c || x) (ap (λ x. x && list c) (eq-eqb t t refl) ∙ p) ∙ or-false (has_mark due.rows t c)) ∙ k) ready

      version : (u c : ℕ) → has_mark due1.rows u c ≡ true → (u ≡ t) ⊎ (u ≡ t → ⊥) → version_at (lists news) u c ≡ cond ((eqb u t) && list c) v (version_at (lists versions) u c)
      version u c k (inl e) =
          ap (λ i. version_at (lists news) i c) e
          ∙ here c (ap (λ i. has_mark due1.rows i c) (sym e) ∙ k) (list c) refl
          ∙ ap (λ i. cond (list c) v (version_at (lists versions) i c)) (sym e)
          ∙ ap (λ x. cond (x && list c) v (version_at (lists versions) u c)) (sym (eq-eqb u t e))
      version u c k (inr ne) =
          row.others u c ne
          ∙ idle.others u c ne
          ∙ ap (λ x. cond (x && list c) v (version_at (lists versions) u c)) (sym (ne_eqb u t ne))

module _ {State : Type 0} where
  kept_marked : (s : Option State) (m m1 x : Bool) (v w w1 : ℕ) → m1 ≡ (m || x) → (m1 ≡ true → w1 ≡ cond x v w) → ◌≡◌ {A = Held State} (kept s m1 w1) (cond x (marked (kept s m w) v) (kept s m w))
  kept_marked s m m1 x v w w1 e version = ap (λ b. kept s b w1) e ∙ by_test m x (λ k. version (e ∙ k))
    where
      by_test : (m x : Bool) → ((m || x) ≡ true → w1 ≡ cond x v w) → ◌≡◌ {A = Held State} (kept s (m || x) w1) (cond x (marked (kept s m w) v) (kept s m w))
      by_test true true h = ap (λ (i : ℕ). kept s true i) (h refl)
      by_test true false h = ap (λ (i : ℕ). kept s true i) (h refl)
      by_test false true h = ap (λ (i : ℕ). kept s true i) (h refl)
      by_test false false h = refl

  -- what is held then
  module _ (states : ℕ → ℕ → Option State) (v : ℕ) (due due1 : Marked) (versions versions1 : List VersionRow) (marks : ℕ → ℕ → Bool) (rows : List (List (Held State))) (bounded : IsBounded states due.width (length due.rows)) (layout : IsLayout due (lists versions)) (e : rows_of states due (lists versions) ≡ rows) (are : AreMarked v due versions due1 versions1 marks) where
    pub held_are : (t c : ℕ) → held_at (rows_of states due1 (lists versions1)) t c ≡ cond (marks t c) (marked (held_at rows t c) v) (held_at rows t c)
    held_are t c =
        held_kept states due1 (lists versions1) (bounded_along states are.width are.cycles bounded) are.layout t c
        ∙ kept_marked (states t c) (has_mark due.rows t c) (has_mark due1.rows t c) (marks t c) v (version_at (lists versions) t c) (version_at (lists versions1) t c) (are.due t c) (are.version t c)
        ∙ ap (λ (k : Held State). cond (marks t c) (marked k v) k) (sym (seen states due (lists versions) rows e bounded layout t c))

    pub len_are : length (rows_of states due1 (lists versions1)) ≡ length rows
    len_are = length_rows states due1 (lists versions1) ∙ are.cycles ∙ sym (seen_cycles states due (lists versions) rows e)

    pub lens_are : (u : ℕ) → length (row_at (rows_of states due1 (lists versions1)) u) ≡ length (row_at rows u)
    lens_are u = by_cycle (cases_lt u (length due.rows))
      where
        by_cycle : (u < length due.rows) ⊎ (length due.rows ≤ u) → length (row_at (rows_of states due1 (lists versions1)) u) ≡ length (row_at rows u)
        by_cycle (inl k) = length_row states due1 (lists versions1) u (omega (arith, k, are.cycles)) ∙ are.width ∙ sym (seen_length states due (lists versions) rows e u k)
        by_cycle (inr k) = lens_past states due1 (lists versions1) u (omega (arith, k, are.cycles)) ∙ sym (ap (λ r. length (row_at r u)) (sym e) ∙ lens_past states due (lists versions) u k)
