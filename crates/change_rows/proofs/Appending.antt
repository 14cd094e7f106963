-- Cells of others behind all cells, at once.
use Rattle.std.proofs.Common.{◌≡◌, ℕ, zero, suc, ◌+◌, ◌-◌, ◌<◌, ◌≤◌, ◌^◌, ◌∙◌, ◌⊎◌, inl, inr, sym, ap, subst, arith, refl, List, [], ◌∷◌, ◌++◌, length, map, take, drop, get_or, slice_range}
use Rattle.std.proofs.lemmas.Bool.{cases_eq, cases_lt}
use Rattle.std.proofs.lemmas.List.{get_or_default, get_or-drop, get_or-take, get_or-map, length-map, get_or_append_left, get_or-append_right, same_lists, length-append, length-take, length-drop, append-nil, append_assoc, map-append, take_more, drop-drop}
use lib.Seq.{take-add}
use Rattle.change_rows.specs.declared.head.Head.{Head}
use Rattle.change_rows.specs.Cells.{Held, no_cell, end_of, component_at}
use Rattle.change_rows.specs.Packed.{head_at, start_at, moved, cell_at, cells_of, IsPacked}
use Rattle.change_rows.proofs.Finding.{ascends, end_append}
use Rattle.change_rows.proofs.Packing.{length_cells, at_cells, more_cells, more_packed}

-- later cells' words begin later
pub starts_climb : (heads : List Head) (words : List ℕ) (packed : IsPacked heads words) (i n : ℕ) → i + n ≤ length heads → start_at heads (length words) i ≤ start_at heads (length words) (i + n)
starts_climb heads words packed i zero h =
    let e : i + zero ≡ i = omega arith in
    omega (arith, ap (start_at heads (length words)) e)
starts_climb heads words packed i (suc n) h =
    let e : i + suc n ≡ (i + n) + 1 = omega arith in
    omega (arith, starts_climb heads words packed i n (omega arith), packed.climbs (i + n) (omega arith), ap (start_at heads (length words)) e)

pub starts_order : (heads : List Head) (words : List ℕ) → IsPacked heads words → (i j : ℕ) → i ≤ j → j ≤ length heads → start_at heads (length words) i ≤ start_at heads (length words) j
starts_order heads words packed i j h l =
    let e : i + (j - i) ≡ j = omega (arith, h) in
    omega (arith, starts_climb heads words packed i (j - i) (omega (arith, e, l)), ap (start_at heads (length words)) e)

module _ (heads hs : List Head) (words ws : List ℕ) (from : ℕ) (packed : IsPacked heads words) (others : IsPacked hs ws) where
  abbrev start : ℕ
  start = start_at hs (length ws) from

  abbrev run_heads : ℕ → List Head
  run_heads n = heads ++ map (moved start (length words)) (take n (drop from hs))

  abbrev run_words : ℕ → List ℕ
  run_words n = words ++ take (start_at hs (length ws) (from + n) - start) (drop start ws)

  abbrev run_cells : ℕ → List Held
  run_cells n = cells_of heads words ++ take n (drop from (cells_of hs ws))

  record IsRun (n : ℕ) : Type 0 where
    pub cells : cells_of (run_heads n) (run_words n) ≡ run_cells n
    pub holds : IsPacked (run_heads n) (run_words n)

  heads_more : (n : ℕ) → from + n < length hs → run_heads (n + 1) ≡ run_heads n ++ moved start (length words) (head_at hs (length ws) (from + n)) ∷ []
  heads_more n h =
      ap (λ (v : List Head). heads ++ map (moved start (length words)) v) (take_more (drop from hs) n (record { component = 0; from = length ws }) (omega (arith, h, length-drop from hs)))
      ∙ ap (λ (x : Head). heads ++ map (moved start (length words)) (take n (drop from hs) ++ x ∷ [])) (get_or-drop from hs n (record { component = 0; from = length ws }))
      ∙ ap (λ (v : List Head). heads ++ v) (map-append (moved start (length words)) (take n (drop from hs)) (head_at hs (length ws) (from + n) ∷ []))
      ∙ sym (append_assoc heads (map (moved start (length words)) (take n (drop from hs))) (moved start (length words) (head_at hs (length ws) (from + n)) ∷ []))

  words_length : (n : ℕ) → from + n ≤ length hs → length (run_words n) ≡ start_at hs (length ws) (from + n) - start + length words
  words_length n h =
      omega (arith, length-append words (take (start_at hs (length ws) (from + n) - start) (drop start ws)), length-take (start_at hs (length ws) (from + n) - start) (drop start ws), length-drop start ws, others.within (from + n), others.within from)

  words_more : (n : ℕ) → from + n < length hs → run_words (n + 1) ≡ run_words n ++ (cell_at hs ws (from + n)).words
  words_more n h =
      let a = start_at hs (length ws) (from + n) - start in
      let b = start_at hs (length ws) (from + n + 1) - start_at hs (length ws) (from + n) in
      let climb : start ≤ start_at hs (length ws) (from + n) = starts_climb hs ws others from n (omega arith) in
      let step : start_at hs (length ws) (from + n) ≤ start_at hs (length ws) (from + n + 1) = others.climbs (from + n) h in
      let same : from + (n + 1) ≡ from + n + 1 = omega arith in
      let next : start_at hs (length ws) (from + (n + 1)) ≡ start_at hs (length ws) (from + n + 1) = ap (start_at hs (length ws)) same in
      let e : start_at hs (length ws) (from + (n + 1)) - start ≡ a + b = omega (arith, climb, step, next) in
      let f : start + a ≡ start_at hs (length ws) (from + n) = omega (arith, climb) in
      ap (λ (k : ℕ). words ++ take k (drop start ws)) e
      ∙ ap (λ (v : List ℕ). words ++ v) (take-add a b (drop start ws))
      ∙ ap (λ (v : List ℕ). words ++ (take a (drop start ws) ++ take b v)) (drop-drop a start ws ∙ ap (λ (k : ℕ). drop k ws) f)
      ∙ sym (append_assoc words (take a (drop start ws)) (take b (drop (start_at hs (length ws) (from + n)) ws)))

  cells_more : (n : ℕ) → from + n < length hs → run_cells (n + 1) ≡ run_cells n ++ cell_at hs ws (from + n) ∷ []
  cells_more n h =
      ap (λ (v : List Held). cells_of heads words ++ v)
      (
      take_more (drop from (cells_of hs ws)) n no_cell (omega (arith, h, length-drop from (cells_of hs ws), length_cells hs ws))
      ∙ ap (λ (x : Held). take n (drop from (cells_of hs ws)) ++ x ∷ []) (get_or-drop from (cells_of hs ws) n no_cell ∙ at_cells hs ws (from + n) no_cell h)
      )
      ∙ sym (append_assoc (cells_of heads words) (take n (drop from (cells_of hs ws))) (cell_at hs ws (from + n) ∷ []))

  -- all cells so far are below the next one
  run_end : (n : ℕ) → from + n < length hs → end_of (cells_of heads words) ≤ component_at (cells_of hs ws) from → end_of (run_cells n) ≤ component_at (cells_of hs ws) (from + n)
  run_end n h above =
      let l : from + n < length (cells_of hs ws) = omega (arith, h, length_cells hs ws) in
      omega (arith, end_append (cells_of heads words) (take n (drop from (cells_of hs ws))), low (cases_eq n 0), others.ascends (from + n) l, ap end_of (take-add from n (cells_of hs ws)), end_append (take from (cells_of hs ws)) (take n (drop from (cells_of hs ws))))
    where
      low : (n ≡ 0) ⊎ (n ≡ 0 → ⊥) → end_of (cells_of heads words) ≤ component_at (cells_of hs ws) (from + n)
      low (inl e) =
          let same : from ≡ from + n = omega (arith, e) in
          omega (arith, above, ap (component_at (cells_of hs ws)) same)
      low (inr ne) =
          let step : component_at (cells_of hs ws) from < component_at (cells_of hs ws) (from + n) = ascends (cells_of hs ws) others.ascends from (from + n) (omega (arith, ne)) (omega (arith, h, length_cells hs ws)) in
          omega (arith, above, step)

  run_none : IsRun 0
  run_none =
      let same : from + 0 ≡ from = omega arith in
      let none : start_at hs (length ws) (from + 0) - start ≡ 0 = omega (arith, ap (start_at hs (length ws)) same) in
      let words_are : run_words 0 ≡ words = ap (λ (k : ℕ). words ++ take k (drop start ws)) none ∙ append-nil words in
      let heads_are : run_heads 0 ≡ heads = append-nil heads in
      record {
        cells = ap (λ (v : List Head). cells_of v (run_words 0)) heads_are ∙ ap (cells_of heads) words_are ∙ sym (append-nil (cells_of heads words));
        holds = subst (λ (v : List Head). IsPacked v (run_words 0)) (sym heads_are) (subst (IsPacked heads) (sym words_are) packed);
      }

  run_more : (n : ℕ) → from + n < length hs → end_of (cells_of heads words) ≤ component_at (cells_of hs ws) from → start_at hs (length ws) (from + n + 1) - start + length words < 2 ^ 20 → IsRun n → IsRun (n + 1)
  run_more n there above small before = record {
    cells =
        more_cells (run_heads n) (run_heads (n + 1)) (run_words n) (run_words (n + 1)) (cell_at hs ws (from + n)).words (head_at hs (length ws) (from + n)).component _ before.holds (heads_more n there) begins (words_more n there)
        ∙ ap (λ (v : List Held). v ++ cell_at hs ws (from + n) ∷ []) before.cells
        ∙ sym (cells_more n there);
    holds = more_packed (run_heads n) (run_heads (n + 1)) (run_words n) (run_words (n + 1)) (cell_at hs ws (from + n)).words (head_at hs (length ws) (from + n)).component _ before.holds (heads_more n there) begins (words_more n there) low longer;
  }
    where
      climb : start ≤ start_at hs (length ws) (from + n)
      climb = starts_climb hs ws others from n (omega (arith, there))

      step : start_at hs (length ws) (from + n) ≤ start_at hs (length ws) (from + n + 1)
      step = others.climbs (from + n) there

      begins : (moved start (length words) (head_at hs (length ws) (from + n))).from ≡ length (run_words n)
      begins = sym (words_length n (omega (arith, there)))

      component : component_at (cells_of hs ws) (from + n) ≡ (head_at hs (length ws) (from + n)).component
      component = ap (λ (x : Held). x.component) (at_cells hs ws (from + n) no_cell there)

      low : end_of (cells_of (run_heads n) (run_words n)) ≤ (head_at hs (length ws) (from + n)).component
      low = omega (arith, ap end_of before.cells, run_end n there above, component)

      longer : length (run_words n) + length (cell_at hs ws (from + n)).words < 2 ^ 20
      longer = omega (arith, small, words_length n (omega (arith, there)), climb, step, length-take (start_at hs (length ws) (from + n + 1) - start_at hs (length ws) (from + n)) (drop (start_at hs (length ws) (from + n)) ws))

  run : (n : ℕ) → from + n ≤ length hs → (0 < n → end_of (cells_of heads words) ≤ component_at (cells_of hs ws) from) → start_at hs (length ws) (from + n) - start + length words < 2 ^ 20 → IsRun n
  run zero h above small = run_none
  run (suc n) h above small =
      let there : from + n < length hs = omega (arith, h) in
      let same : from + suc n ≡ from + n + 1 = omega arith in
      let next : start_at hs (length ws) (from + suc n) ≡ start_at hs (length ws) (from + n + 1) = ap (start_at hs (length ws)) same in
      let up : n + 1 ≡ suc n = omega arith in
      subst IsRun up (run_more n there (above (omega arith)) (omega (arith, small, next)) (run n (omega (arith, there)) (λ l. above (omega arith)) (omega (arith, small, next, others.climbs (from + n) there))))

-- the same with what was appended as it came
module _ (heads hs hs1 : List Head) (words ws ws1 more : List ℕ) (from to start base n : ℕ) (packed : IsPacked heads words) (others : IsPacked hs ws) (order : from ≤ to) (there : to ≤ length hs)
    (same_heads : hs1 ≡ hs)
    (same_words : ws1 ≡ ws)
    (starts : start ≡ start_at hs1 n from)
    (counts : n ≡ length ws)
    (based : base ≡ length words)
    (more_is : more ≡ slice_range ws1 (start_at hs1 (length ws1) from) (start_at hs1 (length ws1) to)) where
  start_is : start ≡ start_at hs (length ws) from
  start_is = starts ∙ ap (λ (v : List Head). start_at v n from) same_heads ∙ ap (λ (k : ℕ). start_at hs k from) counts

  more_of : more ≡ slice_range ws (start_at hs (length ws) from) (start_at hs (length ws) to)
  more_of =
      more_is
      ∙ ap (λ (v : List ℕ). slice_range v (start_at hs1 (length v) from) (start_at hs1 (length v) to)) same_words
      ∙ ap (λ (v : List Head). slice_range ws (start_at v (length ws) from) (start_at v (length ws) to)) same_heads

  count : from + (to - from) ≡ to
  count = omega (arith, order)

  climb : start_at hs (length ws) from ≤ start_at hs (length ws) to
  climb = starts_order hs ws others from to order there

  more_length : length more ≡ start_at hs (length ws) to - start_at hs (length ws) from
  more_length = omega (arith, ap length more_of, length-take (start_at hs (length ws) to - start_at hs (length ws) from) (drop (start_at hs (length ws) from) ws), length-drop (start_at hs (length ws) from) ws, others.within to)

  -- a head of the run
  at : (k : ℕ) → from ≤ k → k < to → (start_at hs1 0 k ≡ start_at hs (length ws) k) × ((start_at hs (length ws) from ≤ start_at hs (length ws) k) × (start_at hs (length ws) k ≤ start_at hs (length ws) to))
  at k low high = (
    ap (λ (v : List Head). start_at v 0 k) same_heads ∙ ap (λ (x : Head). x.from) (get_or_default hs k _ _ (omega (arith, high, there))),
    (starts_order hs ws others from k low (omega (arith, high, there)), starts_order hs ws others k to (omega (arith, high)) there),
  )

  pub run_climbs : (k : ℕ) → from ≤ k → k < to → start ≤ start_at hs1 0 k
  run_climbs k low high = omega (arith, start_is, (at k low high).0, (at k low high).1.0)

  pub run_small : length more + base < 2 ^ 20 → (k : ℕ) → from ≤ k → k < to → start_at hs1 0 k - start + base < 2 ^ 20
  run_small small k low high = omega (arith, small, more_length, start_is, (at k low high).0, (at k low high).1.0, (at k low high).1.1)

  module _ (heads1 : List Head) (words1 : List ℕ) (above : from < to → end_of (cells_of heads words) ≤ component_at (cells_of hs ws) from)
      (heads_are : heads1 ≡ heads ++ map (moved start base) (slice_range hs1 from to))
      (words_are : words1 ≡ words ++ more)
      (small : length more + base < 2 ^ 20) where
    heads_is : heads1 ≡ run_heads heads hs words ws from packed others (to - from)
    heads_is =
        heads_are
        ∙ ap (λ (v : List Head). heads ++ map (moved start base) (slice_range v from to)) same_heads
        ∙ ap (λ (k : ℕ). heads ++ map (moved k base) (slice_range hs from to)) start_is
        ∙ ap (λ (k : ℕ). heads ++ map (moved (start_at hs (length ws) from) k) (slice_range hs from to)) based

    words_is : words1 ≡ run_words heads hs words ws from packed others (to - from)
    words_is =
        words_are
        ∙ ap (λ (v : List ℕ). words ++ v) more_of
        ∙ ap (λ (k : ℕ). words ++ take (start_at hs (length ws) k - start_at hs (length ws) from) (drop (start_at hs (length ws) from) ws)) (sym count)

    whole : IsRun heads hs words ws from packed others (to - from)
    whole = run heads hs words ws from packed others (to - from) (omega (arith, count, there)) (λ l. above (omega arith)) (omega (arith, small, more_length, based, ap (start_at hs (length ws)) count))

    pub appended_cells : cells_of heads1 words1 ≡ cells_of heads words ++ slice_range (cells_of hs ws) from to
    appended_cells = ap (λ (v : List Head). cells_of v words1) heads_is ∙ ap (cells_of (run_heads heads hs words ws from packed others (to - from))) words_is ∙ whole.cells

    pub appended_packed : IsPacked heads1 words1
    appended_packed = subst (λ (v : List Head). IsPacked v words1) (sym heads_is) (subst (IsPacked (run_heads heads hs words ws from packed others (to - from))) (sym words_is) whole.holds)

-- heads of others behind all heads
module _ (heads others : List Head) (from to : ℕ) (order : from ≤ to) (there : to ≤ length others) where
  run_length : length (slice_range others from to) ≡ to - from
  run_length = omega (arith, length-take (to - from) (drop from others), length-drop from others, order, there)

  -- where they begin where they began, they are the same
  module _ (begin base : ℕ) (alike : begin ≡ base) (climbs : (k : ℕ) → from ≤ k → k < to → begin ≤ start_at others 0 k) where
    head_kept : (x : Head) → begin ≤ x.from → moved begin base x ≡ x
    head_kept x h = let e : x.from - begin + base ≡ x.from = omega (arith, h, alike) in ap (λ (n : ℕ). same_head x.component n) e
      where
        same_head : ℕ → ℕ → Head
        same_head c n = record { component = c; from = n }

    pub heads_kept : (news : List Head) → news ≡ heads ++ slice_range others from to → news ≡ heads ++ map (moved begin base) (slice_range others from to)
    heads_kept news e = e ∙ ap (λ (v : List Head). heads ++ v) (sym (same_lists (map (moved begin base) (slice_range others from to)) (slice_range others from to) (length-map (slice_range others from to) (moved begin base)) each))
      where
        each : (k : ℕ) (d : Head) → k < length (map (moved begin base) (slice_range others from to)) → get_or (map (moved begin base) (slice_range others from to)) k d ≡ get_or (slice_range others from to) k d
        each k d h =
            let low : k < to - from = omega (arith, h, length-map (slice_range others from to) (moved begin base), run_length) in
            let here : get_or (slice_range others from to) k d ≡ get_or others (from + k) d = get_or-take (to - from) (drop from others) k d low ∙ get_or-drop from others k d in
            let start : (get_or (slice_range others from to) k d).from ≡ start_at others 0 (from + k) = ap (λ (x : Head). x.from) (here ∙ get_or_default others (from + k) d _ (omega (arith, low, order, there))) in
            get_or-map (moved begin base) (slice_range others from to) k d d (omega (arith, low, run_length))
            ∙ head_kept (get_or (slice_range others from to) k d) (omega (arith, start, climbs (from + k) (omega arith) (omega (arith, low, order))))

  -- each of them is moved
  pub heads_moved : (begin base at : ℕ) (longer news : List Head) → at ≡ length heads → longer ≡ heads ++ slice_range others from to → length news ≡ length longer → ((k : ℕ) (d : Head) → k < at → get_or news k d ≡ get_or longer k d) → ((k : ℕ) (d : Head) → at ≤ k → k < length longer → get_or news k d ≡ moved begin base (get_or longer k d)) → news ≡ heads ++ map (moved begin base) (slice_range others from to)
  heads_moved begin base n longer news same e len before done =
      let whole : length longer ≡ length heads + (to - from) = ap length e ∙ length-append heads (slice_range others from to) ∙ ap (λ (n : ℕ). length heads + n) run_length in
      let run : length (map (moved begin base) (slice_range others from to)) ≡ to - from = length-map (slice_range others from to) (moved begin base) ∙ run_length in
      let out : length (heads ++ map (moved begin base) (slice_range others from to)) ≡ length heads + (to - from) = length-append heads (map (moved begin base) (slice_range others from to)) ∙ ap (λ (n : ℕ). length heads + n) run in
      same_lists news (heads ++ map (moved begin base) (slice_range others from to)) (len ∙ whole ∙ sym out) (λ k d h. by_place k d (omega (arith, h, len)) (omega (arith, h, len, whole)) (cases_lt k (length heads)))
    where
      by_place : (k : ℕ) (d : Head) → k < length longer → k < length heads + (to - from) → (k < length heads) ⊎ (length heads ≤ k) → get_or news k d ≡ get_or (heads ++ map (moved begin base) (slice_range others from to)) k d
      by_place k d h low (inl l) =
          before k d (omega (arith, l, same))
          ∙ ap (λ (v : List Head). get_or v k d) e
          ∙ get_or_append_left heads (slice_range others from to) d k l
          ∙ sym (get_or_append_left heads (map (moved begin base) (slice_range others from to)) d k l)
      by_place k d h low (inr l) =
          done k d (omega (arith, l, same)) h
          ∙ ap (λ (v : List Head). moved begin base (get_or v k d)) e
          ∙ ap (moved begin base) (get_or-append_right heads (slice_range others from to) (length heads) k d refl l)
          ∙ sym (get_or-append_right heads (map (moved begin base) (slice_range others from to)) (length heads) k d refl l ∙ get_or-map (moved begin base) (slice_range others from to) (k - length heads) d d (omega (arith, l, low, run_length)))
