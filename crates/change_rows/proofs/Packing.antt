-- Cells in two buffers.
use Rattle.std.proofs.Common.{Some, None, ◌≡◌, ℕ, ◌+◌, ◌-◌, ◌<◌, ◌≤◌, ◌^◌, ◌∙◌, ◌⊎◌, inl, inr, sym, ap, refl, subst, arith, List, [], ◌∷◌, ◌++◌, length, take, drop, get_or}
use Rattle.std.proofs.Math.Seq.{drop-nil, take-nil}
use Rattle.std.proofs.lemmas.Bool.{cases_eq, cases_lt}
use Rattle.std.proofs.lemmas.List.{get_or_default, get_or_past, get_or_append_left, get_or_push, length_push, length-append, drop-append-le, take-append-le, length-drop, take_all, drop_at, append-nil, same_lists}
use Rattle.std.proofs.lemmas.List.FromFn.{length-map-range_with_len, get_or-map-range_with_len}
use Rattle.change_rows.specs.declared.head.Head.{Head}
use Rattle.change_rows.specs.Cells.{Held, no_cell, found, end_of, component_at, IsAscending}
use Rattle.change_rows.specs.Packed.{head_at, start_at, cell_at, cells_of, IsPacked, IsPlace}
use Rattle.change_rows.proofs.Finding.{ascends, found_at, found_none, ascending_push, same_ascends}

pub length_cells : (heads : List Head) (words : List ℕ) → length (cells_of heads words) ≡ length heads
length_cells heads words = length-map-range_with_len (cell_at heads words) 0 (length heads)

pub at_cells : (heads : List Head) (words : List ℕ) (i : ℕ) (d : Held) → i < length heads → get_or (cells_of heads words) i d ≡ cell_at heads words i
at_cells heads words i d h = get_or-map-range_with_len (cell_at heads words) 0 (length heads) i i d h (omega arith)

-- the component of a cell is that of its head, whatever stands where there is none
pub component_is : (heads : List Head) (words : List ℕ) (i : ℕ) (d : Head) → i < length heads → component_at (cells_of heads words) i ≡ (get_or heads i d).component
component_is heads words i d h =
    ap (λ (x : Held). x.component) (at_cells heads words i no_cell h)
    ∙ ap (λ (x : Head). x.component) (get_or_default heads i _ d h)

pub start_is : (heads : List Head) (n i : ℕ) (d : Head) → i < length heads → start_at heads n i ≡ (get_or heads i d).from
start_is heads n i d h = ap (λ (x : Head). x.from) (get_or_default heads i _ d h)

pub words_is : (heads : List Head) (words : List ℕ) (i : ℕ) → i < length heads → (get_or (cells_of heads words) i no_cell).words ≡ take (start_at heads (length words) (i + 1) - start_at heads (length words) i) (drop (start_at heads (length words) i) words)
words_is heads words i h = ap (λ (x : Held). x.words) (at_cells heads words i no_cell h)

nothing : (words : List ℕ) → length words ≡ 0 → words ≡ []
nothing [] e = refl
nothing (w ∷ ws) e = absurd (omega (arith, e))

-- cells of no words
pub no_words : (heads : List Head) (words : List ℕ) (i : ℕ) → length words ≡ 0 → (get_or (cells_of heads words) i no_cell).words ≡ []
no_words heads words i none = by_place (cases_lt i (length heads))
  where
    by_place : (i < length heads) ⊎ (length heads ≤ i) → (get_or (cells_of heads words) i no_cell).words ≡ []
    by_place (inl h) =
        let s = start_at heads (length words) i in
        let n = start_at heads (length words) (i + 1) - s in
        words_is heads words i h ∙ ap (λ (w : List ℕ). take n (drop s w)) (nothing words none) ∙ ap (take n) (drop-nil s) ∙ take-nil n
    by_place (inr h) = ap (λ (x : Held). x.words) (get_or_past (cells_of heads words) i no_cell (omega (arith, h, length_cells heads words)))

-- a component's place tells what is found
pub found_here : (heads : List Head) (words : List ℕ) (c n : ℕ) → IsPacked heads words → IsPlace heads c n → n < length heads → (head_at heads 0 n).component ≡ c → found (cells_of heads words) c ≡ Some (get_or (cells_of heads words) n no_cell).words
found_here heads words c n i place h e =
    ap (found (cells_of heads words)) (sym e ∙ sym (component_is heads words n _ h)) ∙ found_at (cells_of heads words) n i.ascends (omega (arith, length_cells heads words))

pub found_nowhere : (heads : List Head) (words : List ℕ) (c n : ℕ) → IsPlace heads c n → (n < length heads → (head_at heads 0 n).component ≡ c → ⊥) → IsPacked heads words → found (cells_of heads words) c ≡ None
found_nowhere heads words c n place other i = found_none (cells_of heads words) c (λ k m e. absurd (each k (omega (arith, m, length_cells heads words)) e))
  where
    each : (k : ℕ) → k < length heads → component_at (cells_of heads words) k ≡ c → ⊥
    each k m e = by_place (cases_lt k n) (cases_eq k n)
      where
        same : component_at (cells_of heads words) k ≡ (head_at heads 0 k).component
        same = component_is heads words k _ m

        by_place : (k < n) ⊎ (n ≤ k) → (k ≡ n) ⊎ (k ≡ n → ⊥) → ⊥
        by_place (inl l) _ = omega (arith, e, same, place.below k l)
        by_place (inr l) (inl q) = other (subst (λ j. j < length heads) q m) (subst (λ j. (head_at heads 0 j).component ≡ c) q (sym same ∙ e))
        by_place (inr l) (inr q) =
            let less : n < k = omega (arith, l, q) in
            let step : component_at (cells_of heads words) n < component_at (cells_of heads words) k = ascends (cells_of heads words) i.ascends n k less (omega (arith, m, length_cells heads words)) in
            omega (arith, e, step, place.above n (omega arith) (omega (arith, less, m)), component_is heads words n (record { component = 0; from = 0 }) (omega (arith, less, m)))

abbrev a_cell : ℕ → List ℕ → Held
a_cell c words = record { component = c; words = words }

same_cell : (c d : ℕ) (v w : List ℕ) → c ≡ d → v ≡ w → a_cell c v ≡ a_cell d w
same_cell c d v w e f = ap (λ (x : ℕ). a_cell x v) e ∙ ap (a_cell d) f

-- a part of a list is one of a longer list
same_part : (words ws : List ℕ) (s e : ℕ) → s ≤ e → e ≤ length words → take (e - s) (drop s (words ++ ws)) ≡ take (e - s) (drop s words)
same_part words ws s e h l =
    ap (take (e - s)) (drop-append-le s words ws (omega arith)) ∙ take-append-le (e - s) (drop s words) ws (omega (arith, length-drop s words))

last_part : (words ws : List ℕ) (e : ℕ) → e ≡ length words + length ws → take (e - length words) (drop (length words) (words ++ ws)) ≡ ws
last_part words ws e h =
    ap (take (e - length words)) (drop_at words ws (length words) refl) ∙ take_all (e - length words) ws (omega arith)

-- one head more
start_pushed : (heads : List Head) (c n m k : ℕ) → k ≤ length heads → start_at (heads ++ record { component = c; from = n } ∷ []) m k ≡ start_at heads n k
start_pushed heads c n m k h = by_place (cases_eq k (length heads))
  where
    by_place : (k ≡ length heads) ⊎ (k ≡ length heads → ⊥) → start_at (heads ++ record { component = c; from = n } ∷ []) m k ≡ start_at heads n k
    by_place (inl e) =
        ap (λ (x : Head). x.from) (get_or_push heads (record { component = c; from = n }) (record { component = 0; from = m }) k (sym e))
        ∙ sym (ap (λ (x : Head). x.from) (get_or_past heads k (record { component = 0; from = n }) (omega (arith, e))))
    by_place (inr ne) =
        let less : k < length heads = omega (arith, h, ne) in
        ap (λ (x : Head). x.from) (get_or_append_left heads (record { component = c; from = n } ∷ []) (record { component = 0; from = m }) k less)
        ∙ ap (λ (x : Head). x.from) (get_or_default heads k (record { component = 0; from = m }) (record { component = 0; from = n }) less)

start_past : (heads : List Head) (m k : ℕ) → length heads ≤ k → start_at heads m k ≡ m
start_past heads m k h = ap (λ (x : Head). x.from) (get_or_past heads k (record { component = 0; from = m }) h)

module _ (heads : List Head) (words ws : List ℕ) (c : ℕ) (packed : IsPacked heads words) where
  abbrev longer : List Head
  longer = heads ++ record { component = c; from = length words } ∷ []

  cell_before : (k : ℕ) → k < length heads → cell_at longer (words ++ ws) k ≡ cell_at heads words k
  cell_before k h =
      let m = length (words ++ ws) in
      let s : start_at longer m k ≡ start_at heads (length words) k = start_pushed heads c (length words) m k (omega arith) in
      let e : start_at longer m (k + 1) ≡ start_at heads (length words) (k + 1) = start_pushed heads c (length words) m (k + 1) (omega arith) in
      let comp : (head_at longer m k).component ≡ (head_at heads (length words) k).component = ap (λ (x : Head). x.component) (get_or_append_left heads (record { component = c; from = length words } ∷ []) (record { component = 0; from = m }) k h ∙ get_or_default heads k _ _ h) in
      same_cell _ _ _ _ comp
      (
      ap (λ (a : ℕ). take (start_at longer m (k + 1) - a) (drop a (words ++ ws))) s
      ∙ ap (λ (a : ℕ). take (a - start_at heads (length words) k) (drop (start_at heads (length words) k) (words ++ ws))) e
      ∙ same_part words ws (start_at heads (length words) k) (start_at heads (length words) (k + 1)) (packed.climbs k h) (packed.within (k + 1))
      )

  cell_last : cell_at longer (words ++ ws) (length heads) ≡ record { component = c; words = ws }
  cell_last =
      let m = length (words ++ ws) in
      let n = length heads in
      let s : start_at longer m n ≡ length words = start_pushed heads c (length words) m n (omega arith) ∙ start_past heads (length words) n (omega arith) in
      let e : start_at longer m (n + 1) ≡ m = start_past longer m (n + 1) (omega (arith, length_push heads (record { component = c; from = length words }))) in
      let comp : (head_at longer m n).component ≡ c = ap (λ (x : Head). x.component) (get_or_push heads (record { component = c; from = length words }) (record { component = 0; from = m }) n refl) in
      same_cell _ _ _ _ comp
      (
      ap (λ (a : ℕ). take (start_at longer m (n + 1) - a) (drop a (words ++ ws))) s
      ∙ last_part words ws (start_at longer m (n + 1)) (e ∙ length-append words ws)
      )

  pub pushed_cells : cells_of longer (words ++ ws) ≡ cells_of heads words ++ record { component = c; words = ws } ∷ []
  pushed_cells = same_lists _ _ (length_cells longer (words ++ ws) ∙ length_push heads _ ∙ sym (length_push (cells_of heads words) _ ∙ ap (λ (k : ℕ). k + 1) (length_cells heads words))) each
    where
      each : (k : ℕ) (d : Held) → k < length (cells_of longer (words ++ ws)) → get_or (cells_of longer (words ++ ws)) k d ≡ get_or (cells_of heads words ++ record { component = c; words = ws } ∷ []) k d
      each k d h = by_place (cases_eq k (length heads))
        where
          inside : k < length longer
          inside = omega (arith, h, length_cells longer (words ++ ws))

          by_place : (k ≡ length heads) ⊎ (k ≡ length heads → ⊥) → get_or (cells_of longer (words ++ ws)) k d ≡ get_or (cells_of heads words ++ record { component = c; words = ws } ∷ []) k d
          by_place (inl e) =
              at_cells longer (words ++ ws) k d inside ∙ ap (cell_at longer (words ++ ws)) e ∙ cell_last
              ∙ sym (get_or_push (cells_of heads words) _ d k (omega (arith, e, length_cells heads words)))
          by_place (inr ne) =
              let less : k < length heads = omega (arith, inside, ne, length_push heads (record { component = c; from = length words })) in
              at_cells longer (words ++ ws) k d inside ∙ cell_before k less
              ∙ sym (get_or_append_left (cells_of heads words) _ d k (omega (arith, less, length_cells heads words)) ∙ at_cells heads words k d less)

  pub pushed_packed : end_of (cells_of heads words) ≤ c → length words + length ws < 2 ^ 20 → IsPacked longer (words ++ ws)
  pushed_packed above room = record {
    ascends = subst IsAscending (sym pushed_cells) (ascending_push (cells_of heads words) (record { component = c; words = ws }) packed.ascends above);
    climbs = λ k h. climb k h (cases_eq k (length heads));
    within = λ k. stays k (cases_lt (length heads) k);
    small = omega (arith, room, length-append words ws);
  }
    where
      m : ℕ
      m = length (words ++ ws)

      stays : (k : ℕ) → (length heads < k) ⊎ (k ≤ length heads) → start_at longer (length (words ++ ws)) k ≤ length (words ++ ws)
      stays k (inl l) = omega (arith, start_past longer (length (words ++ ws)) k (omega (arith, l, length_push heads (record { component = c; from = length words }))))
      stays k (inr l) = omega (arith, start_pushed heads c (length words) (length (words ++ ws)) k l, packed.within k, length-append words ws)

      climb : (k : ℕ) → k < length longer → (k ≡ length heads) ⊎ (k ≡ length heads → ⊥) → start_at longer (length (words ++ ws)) k ≤ start_at longer (length (words ++ ws)) (k + 1)
      climb k h (inl e) = omega (arith, start_past longer (length (words ++ ws)) (k + 1) (omega (arith, e, length_push heads (record { component = c; from = length words }))), stays k (cases_lt (length heads) k))
      climb k h (inr ne) =
          let less : k < length heads = omega (arith, h, ne, length_push heads (record { component = c; from = length words })) in
          omega (arith, start_pushed heads c (length words) (length (words ++ ws)) k (omega arith), start_pushed heads c (length words) (length (words ++ ws)) (k + 1) (omega arith), packed.climbs k less)

pub pairs_ascend : (heads : List Head) (words : List ℕ) → IsPacked heads words → (i j : ℕ) → i < j → j < length heads → (head_at heads 0 i).component < (head_at heads 0 j).component
pairs_ascend heads words packed i j h l =
    let step : component_at (cells_of heads words) i < component_at (cells_of heads words) j = ascends (cells_of heads words) packed.ascends i j h (omega (arith, l, length_cells heads words)) in
    omega (arith, step, component_is heads words i (record { component = 0; from = 0 }) (omega (arith, h, l)), component_is heads words j (record { component = 0; from = 0 }) l)

-- one head more, whose cell has words ws
pub more_cells : (heads heads1 : List Head) (words words1 ws : List ℕ) (c from : ℕ) → IsPacked heads words → heads1 ≡ heads ++ record { component = c; from = from } ∷ [] → from ≡ length words → words1 ≡ words ++ ws → cells_of heads1 words1 ≡ cells_of heads words ++ record { component = c; words = ws } ∷ []
more_cells heads heads1 words words1 ws c from packed e f g =
    ap (λ (h : List Head). cells_of h words1) e
    ∙ ap (λ (w : List ℕ). cells_of (heads ++ record { component = c; from = from } ∷ []) w) g
    ∙ ap (λ (n : ℕ). cells_of (heads ++ record { component = c; from = n } ∷ []) (words ++ ws)) f
    ∙ pushed_cells heads words ws c packed

pub more_packed : (heads heads1 : List Head) (words words1 ws : List ℕ) (c from : ℕ) → IsPacked heads words → heads1 ≡ heads ++ record { component = c; from = from } ∷ [] → from ≡ length words → words1 ≡ words ++ ws → end_of (cells_of heads words) ≤ c → length words + length ws < 2 ^ 20 → IsPacked heads1 words1
more_packed heads heads1 words words1 ws c from packed e f g above room =
    subst (λ (h : List Head). IsPacked h words1) (sym e)
    (
    subst (λ (w : List ℕ). IsPacked (heads ++ record { component = c; from = from } ∷ []) w) (sym g)
    (subst (λ (n : ℕ). IsPacked (heads ++ record { component = c; from = n } ∷ []) (words ++ ws)) (sym f) (pushed_packed heads words ws c packed above room))
    )

pub begun_cells : (heads heads1 : List Head) (words : List ℕ) (c from : ℕ) → IsPacked heads words → heads1 ≡ heads ++ record { component = c; from = from } ∷ [] → from ≡ length words → cells_of heads1 words ≡ cells_of heads words ++ record { component = c; words = [] } ∷ []
begun_cells heads heads1 words c from packed e f = more_cells heads heads1 words words [] c from packed e f (sym (append-nil words))

pub begun_packed : (heads heads1 : List Head) (words : List ℕ) (c from : ℕ) → IsPacked heads words → heads1 ≡ heads ++ record { component = c; from = from } ∷ [] → from ≡ length words → end_of (cells_of heads words) ≤ c → IsPacked heads1 words
begun_packed heads heads1 words c from packed e f above = more_packed heads heads1 words words [] c from packed e f (sym (append-nil words)) above (omega (arith, packed.small))

-- the words of the last cell go on
module _ (heads : List Head) (words ws : List ℕ) (packed : IsPacked heads words) where
  start_same : (k : ℕ) → k < length heads → start_at heads (length (words ++ ws)) k ≡ start_at heads (length words) k
  start_same k h = ap (λ (x : Head). x.from) (get_or_default heads k _ _ h)

  component_same : (k : ℕ) → k < length heads → (cell_at heads (words ++ ws) k).component ≡ (cell_at heads words k).component
  component_same k h = ap (λ (x : Head). x.component) (get_or_default heads k _ _ h)

  cell_same : (k : ℕ) → k + 1 < length heads → cell_at heads (words ++ ws) k ≡ cell_at heads words k
  cell_same k h =
      let m = length (words ++ ws) in
      same_cell _ _ _ _ (component_same k (omega arith))
      (
      ap (λ (a : ℕ). take (start_at heads m (k + 1) - a) (drop a (words ++ ws))) (start_same k (omega arith))
      ∙ ap (λ (a : ℕ). take (a - start_at heads (length words) k) (drop (start_at heads (length words) k) (words ++ ws))) (start_same (k + 1) h)
      ∙ same_part words ws (start_at heads (length words) k) (start_at heads (length words) (k + 1)) (packed.climbs k (omega arith)) (packed.within (k + 1))
      )

  cell_more : (k : ℕ) → k + 1 ≡ length heads → cell_at heads (words ++ ws) k ≡ a_cell (cell_at heads words k).component ((cell_at heads words k).words ++ ws)
  cell_more k h =
      let m = length (words ++ ws) in
      let s = start_at heads (length words) k in
      let last : start_at heads m (k + 1) ≡ m = start_past heads m (k + 1) (omega arith) in
      let last0 : start_at heads (length words) (k + 1) ≡ length words = start_past heads (length words) (k + 1) (omega arith) in
      let low : s ≤ length words = packed.within k in
      let whole : take (start_at heads (length words) (k + 1) - s) (drop s words) ≡ drop s words = take_all (start_at heads (length words) (k + 1) - s) (drop s words) (omega (arith, length-drop s words, last0)) in
      same_cell _ _ _ _ (component_same k (omega arith))
      (
      ap (λ (a : ℕ). take (start_at heads m (k + 1) - a) (drop a (words ++ ws))) (start_same k (omega arith))
      ∙ take_all (start_at heads m (k + 1) - s) (drop s (words ++ ws)) (omega (arith, length-drop s (words ++ ws), last))
      ∙ drop-append-le s words ws low
      ∙ ap (λ (v : List ℕ). v ++ ws) (sym whole)
      )

  pub extended_cells : (front : List Held) (cell : Held) → cells_of heads words ≡ front ++ cell ∷ [] → cells_of heads (words ++ ws) ≡ front ++ record { component = cell.component; words = cell.words ++ ws } ∷ []
  extended_cells front cell e = same_lists _ _ (length_cells heads (words ++ ws) ∙ sym (length_cells heads words) ∙ ap length e ∙ length_push front cell ∙ sym (length_push front (a_cell cell.component (cell.words ++ ws)))) each
    where
      count : length heads ≡ length front + 1
      count = sym (length_cells heads words) ∙ ap length e ∙ length_push front cell

      each : (k : ℕ) (d : Held) → k < length (cells_of heads (words ++ ws)) → get_or (cells_of heads (words ++ ws)) k d ≡ get_or (front ++ a_cell cell.component (cell.words ++ ws) ∷ []) k d
      each k d h = by_place (cases_eq k (length front))
        where
          inside : k < length heads
          inside = omega (arith, h, length_cells heads (words ++ ws))

          by_place : (k ≡ length front) ⊎ (k ≡ length front → ⊥) → get_or (cells_of heads (words ++ ws)) k d ≡ get_or (front ++ a_cell cell.component (cell.words ++ ws) ∷ []) k d
          by_place (inl q) =
              let here : cell_at heads words k ≡ cell = sym (at_cells heads words k d inside) ∙ ap (λ (x : List Held). get_or x k d) e ∙ get_or_push front cell d k (sym q) in
              at_cells heads (words ++ ws) k d inside ∙ cell_more k (omega (arith, q, count))
              ∙ ap (λ (x : Held). a_cell x.component (x.words ++ ws)) here
              ∙ sym (get_or_push front (a_cell cell.component (cell.words ++ ws)) d k (sym q))
          by_place (inr ne) =
              let less : k < length front = omega (arith, inside, ne, count) in
              at_cells heads (words ++ ws) k d inside ∙ cell_same k (omega (arith, less, count))
              ∙ sym (at_cells heads words k d inside) ∙ ap (λ (x : List Held). get_or x k d) e
              ∙ get_or_append_left front (cell ∷ []) d k less
              ∙ sym (get_or_append_left front (a_cell cell.component (cell.words ++ ws) ∷ []) d k less)

  pub extended_packed : length words + length ws < 2 ^ 20 → IsPacked heads (words ++ ws)
  extended_packed room = record {
    ascends = same_ascends (cells_of heads words) (cells_of heads (words ++ ws)) (length_cells heads words ∙ sym (length_cells heads (words ++ ws))) alike packed.ascends;
    climbs = λ k h. climb k h (cases_eq (k + 1) (length heads));
    within = λ k. stays k (cases_lt k (length heads));
    small = omega (arith, room, length-append words ws);
  }
    where
      alike : (k : ℕ) → k < length (cells_of heads words) → component_at (cells_of heads words) k ≡ component_at (cells_of heads (words ++ ws)) k
      alike k h =
          let l : k < length heads = omega (arith, h, length_cells heads words) in
          component_is heads words k (record { component = 0; from = 0 }) l ∙ sym (component_is heads (words ++ ws) k (record { component = 0; from = 0 }) l)

      stays : (k : ℕ) → (k < length heads) ⊎ (length heads ≤ k) → start_at heads (length (words ++ ws)) k ≤ length (words ++ ws)
      stays k (inl l) = omega (arith, start_same k l, packed.within k, length-append words ws)
      stays k (inr l) = omega (arith, start_past heads (length (words ++ ws)) k l)

      climb : (k : ℕ) → k < length heads → (k + 1 ≡ length heads) ⊎ (k + 1 ≡ length heads → ⊥) → start_at heads (length (words ++ ws)) k ≤ start_at heads (length (words ++ ws)) (k + 1)
      climb k h (inl e) = omega (arith, start_past heads (length (words ++ ws)) (k + 1) (omega (arith, e)), stays k (inl h))
      climb k h (inr ne) = omega (arith, start_same k h, start_same (k + 1) (omega (arith, h, ne)), packed.climbs k h)

pub longer_cells : (heads : List Head) (words words1 ws : List ℕ) (front : List Held) (cell : Held) → IsPacked heads words → words1 ≡ words ++ ws → cells_of heads words ≡ front ++ cell ∷ [] → cells_of heads words1 ≡ front ++ record { component = cell.component; words = cell.words ++ ws } ∷ []
longer_cells heads words words1 ws front cell packed g e = ap (cells_of heads) g ∙ extended_cells heads words ws packed front cell e

pub longer_packed : (heads : List Head) (words words1 ws : List ℕ) → IsPacked heads words → words1 ≡ words ++ ws → length words + length ws < 2 ^ 20 → IsPacked heads words1
longer_packed heads words words1 ws packed g room = subst (IsPacked heads) (sym g) (extended_packed heads words ws packed room)

-- where a component's cell stands is its place
pub place_here : (heads : List Head) (words : List ℕ) (c n : ℕ) → IsPacked heads words → n < length heads → (head_at heads 0 n).component ≡ c → IsPlace heads c n
place_here heads words c n packed h e = record {
  within = omega arith;
  below = λ k l. let step : (head_at heads 0 k).component < (head_at heads 0 n).component = pairs_ascend heads words packed k n l h in omega (arith, step, e);
  above = λ k l m. by_place k l m (cases_eq k n);
}
  where
    by_place : (k : ℕ) → n ≤ k → k < length heads → (k ≡ n) ⊎ (k ≡ n → ⊥) → c ≤ (head_at heads 0 k).component
    by_place k l m (inl q) = omega (arith, e, ap (λ (j : ℕ). (head_at heads 0 j).component) q)
    by_place k l m (inr q) = let step : (head_at heads 0 n).component < (head_at heads 0 k).component = pairs_ascend heads words packed n k (omega (arith, l, q)) m in omega (arith, step, e)
