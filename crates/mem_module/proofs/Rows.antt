-- What a search finds among ascending rows, and what an edit at that place leaves.
use Rattle.std.proofs.Common.{◌≡◌, ℕ, zero, suc, ◌+◌, ◌-◌, ◌*◌, ◌<◌, ◌≤◌, ◌==◌, true, false, List, [], ◌∷◌, ◌++◌, length, take, drop, find, get_or, slice_get, nat_lt, set, Some, None, Result, Ok, Err, IfOk, IfErr, sym, ap, refl, arith, append-nil, append_assoc, Bool, inl, inr, ◌⊎◌, subst}
use Rattle.std.specs.List.{insert, remove}
use Rattle.std.proofs.lemmas.List.{take-append-drop}
use Rattle.std.proofs.lemmas.List.Sorted.{IsNonDecreasingBy-from_default}
use Rattle.std.proofs.lemmas.Option.{get_or_from_slice_get}
use Rattle.std.proofs.lemmas.Bool.{ltb-true, cases_lt, cases_order, lt-ltb, le-ltb, ne_eqb}
use Rattle.std.proofs.lemmas.Bool.Decides.{nat_tests}
use Rattle.mem_module.specs.declared.words.Stored.{Stored}
use Rattle.mem_module.specs.Memory.{word_at, with_word, stored, rows_below, rows_above, AscendsFrom, IsAscending, row_at, IsAt, IsGapFor}

-- a place that no row has
abbrev pub blank : Stored
blank = record { row = 0; word = 0 }

module _ (row : ℕ) where
  -- a row below all of them
  below_none : (low : ℕ) (ws : List Stored) → AscendsFrom low ws → row < low → rows_below ws row ≡ []
  below_none low [] rise under = refl
  below_none low (w ∷ ws) rise under = grind (arith, nat_tests, rise.0, below_none (w.row + 1) ws rise.2 (omega (arith, rise.0)))

  above_all : (low : ℕ) (ws : List Stored) → AscendsFrom low ws → row < low → rows_above ws row ≡ ws
  above_all low [] rise under = refl
  above_all low (w ∷ ws) rise under = grind (arith, nat_tests, rise.0, above_all (w.row + 1) ws rise.2 (omega (arith, rise.0)))

  absent_below : (low : ℕ) (ws : List Stored) → AscendsFrom low ws → row < low → find (λ w. w.row == row) ws ≡ None
  absent_below low [] rise under = refl
  absent_below low (w ∷ ws) rise under = grind (arith, nat_tests, rise.0, absent_below (w.row + 1) ws rise.2 (omega (arith, rise.0)))

-- each row is at least the lower bound
row_from : (low : ℕ) (ws : List Stored) (i : ℕ) → AscendsFrom low ws → i < length ws → low ≤ row_at ws i
row_from low [] i rise within = absurd (omega arith)
row_from low (w ∷ ws) zero rise within = rise.0
row_from low (w ∷ ws) (suc i) rise within = omega (arith, rise.0, row_from (w.row + 1) ws i rise.2 (omega arith))

rows_rise : (low : ℕ) (ws : List Stored) (i j : ℕ) → AscendsFrom low ws → i < j → j < length ws → row_at ws i < row_at ws j
rows_rise low [] i j rise under within = absurd (omega arith)
rows_rise low (w ∷ ws) i zero rise under within = absurd (omega arith)
rows_rise low (w ∷ ws) zero (suc j) rise under within = omega (arith, row_from (w.row + 1) ws j rise.2 (omega arith))
rows_rise low (w ∷ ws) (suc i) (suc j) rise under within = rows_rise (w.row + 1) ws i j rise.2 (omega arith) (omega arith)

-- a lower bound may be lowered
ascends_lower : (low high : ℕ) (ws : List Stored) → low ≤ high → AscendsFrom high ws → AscendsFrom low ws
ascends_lower low high [] le rise = tt
ascends_lower low high (w ∷ ws) le rise = (omega (arith, rise.0), rise.1, rise.2)

-- a write keeps what is before it and behind it
set_parts : (ws : List Stored) (i : ℕ) (w : Stored) → i < length ws → set ws i w ≡ take i ws ++ w ∷ drop (suc i) ws
set_parts [] i w within = absurd (omega arith)
set_parts (v ∷ ws) zero w within = refl
set_parts (v ∷ ws) (suc i) w within = ap (λ rest. v ∷ rest) (set_parts ws i w (omega arith))

module _ (row : ℕ) where
  -- where the row stands at place i, the lower rows are before it, and the higher ones behind
  at_below : (low : ℕ) (ws : List Stored) (i : ℕ) → AscendsFrom low ws → i < length ws → row_at ws i ≡ row → rows_below ws row ≡ take i ws
  at_below low [] i rise within here = absurd (omega arith)
  at_below low (w ∷ ws) zero rise within here = grind (arith, nat_tests, below_none row (w.row + 1) ws rise.2 (omega arith))
  at_below low (w ∷ ws) (suc i) rise within here =
      let above = row_from (w.row + 1) ws i rise.2 (omega arith) in
      grind (arith, nat_tests, above, at_below (w.row + 1) ws i rise.2 (omega arith) here)

  at_above : (low : ℕ) (ws : List Stored) (i : ℕ) → AscendsFrom low ws → i < length ws → row_at ws i ≡ row → rows_above ws row ≡ drop (suc i) ws
  at_above low [] i rise within here = absurd (omega arith)
  at_above low (w ∷ ws) zero rise within here = grind (arith, nat_tests, above_all row (w.row + 1) ws rise.2 (omega arith))
  at_above low (w ∷ ws) (suc i) rise within here =
      let above = row_from (w.row + 1) ws i rise.2 (omega arith) in
      grind (arith, nat_tests, above, at_above (w.row + 1) ws i rise.2 (omega arith) here)

  at_found : (low : ℕ) (ws : List Stored) (i : ℕ) → AscendsFrom low ws → i < length ws → row_at ws i ≡ row → find (λ w. w.row == row) ws ≡ Some (get_or ws i blank)
  at_found low [] i rise within here = absurd (omega arith)
  at_found low (w ∷ ws) zero rise within here = grind (arith, nat_tests)
  at_found low (w ∷ ws) (suc i) rise within here =
      let above = row_from (w.row + 1) ws i rise.2 (omega arith) in
      grind (arith, nat_tests, above, at_found (w.row + 1) ws i rise.2 (omega arith) here)

  gap_tail : (w : Stored) (ws : List Stored) (i : ℕ) → IsGapFor (w ∷ ws) row (suc i) → IsGapFor ws row i
  gap_tail w ws i gap = record {
    in_range = omega (arith, gap.in_range);
    lower_before = λ j under. gap.lower_before (suc j) (omega arith);
    higher_after = λ j from within. gap.higher_after (suc j) (omega arith) (omega arith);
  }

  gap_rest : (w : Stored) (ws : List Stored) → IsGapFor (w ∷ ws) row 0 → IsGapFor ws row 0
  gap_rest w ws gap = record {
    in_range = omega arith;
    lower_before = λ j under. absurd (omega arith);
    higher_after = λ j from within. gap.higher_after (suc j) (omega arith) (omega arith);
  }

  -- where it would go there, it isn't kept
  gap_below : (ws : List Stored) (i : ℕ) → IsGapFor ws row i → rows_below ws row ≡ take i ws
  gap_below [] zero gap = refl
  gap_below [] (suc i) gap = absurd (omega (arith, gap.in_range))
  gap_below (w ∷ ws) zero gap = grind (arith, nat_tests, gap.higher_after 0 (omega arith) (omega arith), gap_below ws 0 (gap_rest w ws gap))
  gap_below (w ∷ ws) (suc i) gap = grind (arith, nat_tests, gap.lower_before 0 (omega arith), gap_below ws i (gap_tail w ws i gap))

  gap_above : (ws : List Stored) (i : ℕ) → IsGapFor ws row i → rows_above ws row ≡ drop i ws
  gap_above [] zero gap = refl
  gap_above [] (suc i) gap = absurd (omega (arith, gap.in_range))
  gap_above (w ∷ ws) zero gap = grind (arith, nat_tests, gap.higher_after 0 (omega arith) (omega arith), gap_above ws 0 (gap_rest w ws gap))
  gap_above (w ∷ ws) (suc i) gap = grind (arith, nat_tests, gap.lower_before 0 (omega arith), gap_above ws i (gap_tail w ws i gap))

  gap_absent : (ws : List Stored) (i : ℕ) → IsGapFor ws row i → find (λ w. w.row == row) ws ≡ None
  gap_absent [] i gap = refl
  gap_absent (w ∷ ws) zero gap = grind (arith, nat_tests, gap.higher_after 0 (omega arith) (omega arith), gap_absent ws 0 (gap_rest w ws gap))
  gap_absent (w ∷ ws) (suc i) gap = grind (arith, nat_tests, gap.lower_before 0 (omega arith), gap_absent ws i (gap_tail w ws i gap))

  -- the word of a row that is kept, or isn't
  pub word_here : (ws : List Stored) (i : ℕ) → IsAscending ws → IsAt ws row i → word_at ws row ≡ (get_or ws i blank).word
  word_here ws i rise here = rw (at_found 0 ws i rise here.in_range here.has_row) refl

  pub word_absent : (ws : List Stored) (i : ℕ) → IsGapFor ws row i → word_at ws row ≡ 0
  word_absent ws i gap = rw (gap_absent ws i gap) refl

  -- what `put` leaves in each case, where that is what is kept of the word
  pub put_removed : (ws : List Stored) (i word : ℕ) → IsAscending ws → IsAt ws row i → [] ≡ stored row word → remove ws i ≡ with_word ws row word
  put_removed ws i word rise here none =
      rw (← none, at_below 0 ws i rise here.in_range here.has_row, at_above 0 ws i rise here.in_range here.has_row, append-nil (take i ws)) refl

  pub put_written : (ws : List Stored) (i word : ℕ) (w : Stored) → IsAscending ws → IsAt ws row i → w ∷ [] ≡ stored row word → set ws i w ≡ with_word ws row word
  put_written ws i word w rise here one =
      rw (← one, at_below 0 ws i rise here.in_range here.has_row, at_above 0 ws i rise here.in_range here.has_row, append_assoc (take i ws) (w ∷ []) (drop (suc i) ws)) (set_parts ws i w here.in_range)

  pub put_nothing : (ws : List Stored) (i word : ℕ) → IsGapFor ws row i → [] ≡ stored row word → ws ≡ with_word ws row word
  put_nothing ws i word gap none =
      rw (← none, gap_below ws i gap, gap_above ws i gap, append-nil (take i ws)) (sym (take-append-drop i ws))

  pub put_inserted : (ws : List Stored) (i word : ℕ) (w : Stored) → IsGapFor ws row i → w ∷ [] ≡ stored row word → insert ws i w ≡ with_word ws row word
  put_inserted ws i word w gap one =
      rw (← one, gap_below ws i gap, gap_above ws i gap, append_assoc (take i ws) (w ∷ []) (drop i ws)) refl

  -- the rows above one rise from behind it
  above_ascends : (low : ℕ) (ws : List Stored) → AscendsFrom low ws → AscendsFrom (row + 1) (rows_above ws row)
  above_ascends low [] rise = tt
  above_ascends low (w ∷ ws) rise = elim (cases_lt row w.row) [
    | inl over ↦ rw (lt-ltb row w.row over, above_all row (w.row + 1) ws rise.2 (omega (arith, over))) (omega (arith, over), rise.1, rise.2)
    | inr under ↦ rw (le-ltb row w.row under) (above_ascends (w.row + 1) ws rise.2)
  ]

  -- rows that rise from one on may stand behind those below it
  below_ascends : (low : ℕ) (ws more : List Stored) → AscendsFrom low ws → low ≤ row → AscendsFrom row more → AscendsFrom low (rows_below ws row ++ more)
  below_ascends low [] more rise from behind = ascends_lower low row more from behind
  below_ascends low (w ∷ ws) more rise from behind = elim (cases_lt w.row row) [
    | inl under ↦ rw (lt-ltb w.row row under) (rise.0, rise.1, below_ascends (w.row + 1) ws more rise.2 (omega (arith, under)) behind)
    | inr over ↦ rw (le-ltb w.row row over) (below_ascends low ws more (ascends_lower low (w.row + 1) ws (omega (arith, rise.0)) rise.2) from behind)
  ]

  stored_ascends : (word : ℕ) (t : Bool) (more : List Stored) → (word == 0) ≡ t → AscendsFrom (row + 1) more → AscendsFrom row (stored row word ++ more)
  stored_ascends word true more test behind = rw test (ascends_lower row (row + 1) more (omega arith) behind)
  stored_ascends word false more test behind = rw test (omega arith, grind (arith, nat_tests), behind)

  -- what is left rises too
  pub with_ascends : (ws : List Stored) (word : ℕ) → IsAscending ws → IsAscending (with_word ws row word)
  with_ascends ws word rise =
      rw (append_assoc (rows_below ws row) (stored row word) (rows_above ws row)) (below_ascends 0 ws _ rise (omega arith) (stored_ascends word (word == 0) _ refl (above_ascends 0 ws rise)))

  -- the word that is there already changes nothing
  same_first : (low : ℕ) (w : Stored) (ws : List Stored) → AscendsFrom low (w ∷ ws) → w.row ≡ row → with_word (w ∷ ws) row (word_at (w ∷ ws) row) ≡ w ∷ ws
  same_first low w ws rise here =
      rw (at_below low (w ∷ ws) 0 rise (omega arith) here, at_above low (w ∷ ws) 0 rise (omega arith) here, at_found low (w ∷ ws) 0 rise (omega arith) here, ne_eqb w.word 0 (λ e. omega (arith, rise.1, e)), ← here) refl

  pub with_same : (low : ℕ) (ws : List Stored) → AscendsFrom low ws → with_word ws row (word_at ws row) ≡ ws
  with_same low [] rise = refl
  with_same low (w ∷ ws) rise = elim (cases_order w.row row) [
    | inl here ↦ same_first low w ws rise here
    | inr (inl under) ↦ rw (lt-ltb w.row row under, le-ltb row w.row (omega (arith, under)), ne_eqb w.row row (λ e. omega (arith, under, e))) (ap (λ rest. w ∷ rest) (with_same (w.row + 1) ws rise.2))
    | inr (inr over) ↦ rw (below_none row w.row (w ∷ ws) (omega arith, rise.1, rise.2) over, above_all row w.row (w ∷ ws) (omega arith, rise.1, rise.2) over, absent_below row w.row (w ∷ ws) (omega arith, rise.1, rise.2) over) refl
  ]

-- a row above the last one goes behind all of them
pub past_last : (ws : List Stored) (row : ℕ) → IsAscending ws → (0 < length ws → row_at ws (length ws - 1) < row) → IsGapFor ws row (length ws)
past_last ws row rise over = record {
  in_range = omega arith;
  lower_before = λ j h. by_place j h (cases_lt j (length ws - 1)) (over (omega (arith, h)));
  higher_after = λ j h l. absurd (omega (arith, h, l));
}
  where
    by_place : (j : ℕ) → j < length ws → (j < length ws - 1) ⊎ (length ws - 1 ≤ j) → row_at ws (length ws - 1) < row → row_at ws j < row
    by_place j h (inl lt) last = let x = rows_rise 0 ws j (length ws - 1) rise lt (omega (arith, h)) in omega (arith, x, last)
    by_place j h (inr ge) last = let e : length ws - 1 ≡ j = omega (arith, h, ge) in subst (λ i. row_at ws i < row) e last

pub past_last_read : (ws : List Stored) (row : ℕ) (last : Stored) → IsAscending ws → Some last ≡ slice_get ws (length ws - 1) → nat_lt last.row row ≡ true → IsGapFor ws row (length ws)
past_last_read ws row last rise read over =
    past_last ws row rise (λ some. let e : get_or ws (length ws - 1) blank ≡ last = get_or_from_slice_get ws (length ws - 1) last blank (sym read) in let r : row_at ws (length ws - 1) ≡ last.row = ap (λ (w : Stored). w.row) e in let l = ltb-true last.row row over in omega (arith, r, l))

-- a search among ascending rows: which places are left of them
pub record Searching (ws : List Stored) (row base size : ℕ) : Type 0 where
  pub some : 0 < size
  pub fits : base + size ≤ length ws
  pub up_to : 0 < base → row_at ws base ≤ row
  pub above : (j : ℕ) → base + size ≤ j → j < length ws → row < row_at ws j

module _ (ws : List Stored) (row base size half : ℕ) (s : Searching ws row base size) (within : 0 < half) (less : half + half ≤ size) where
  -- the middle row isn't above: the upper half is left
  pub upper_half : row_at ws (base + half) ≤ row → Searching ws row (base + half) (size - half)
  upper_half under = record {
    some = omega (arith, within, less, s.some);
    fits = omega (arith, within, less, s.fits);
    up_to = λ _. under;
    above = λ j from last. s.above j (omega (arith, from, less)) last;
  }

  -- it is: the lower half is
  pub lower_half : IsAscending ws → row < row_at ws (base + half) → Searching ws row base (size - half)
  lower_half rise over = record {
    some = omega (arith, within, less, s.some);
    fits = omega (arith, within, less, s.fits);
    up_to = s.up_to;
    above = λ j from last. by_place j last (cases_order (base + half) j) from;
  }
    where
      by_place : (j : ℕ) → j < length ws → (base + half ≡ j) ⊎ ((base + half < j) ⊎ (j < base + half)) → base + (size - half) ≤ j → row < row_at ws j
      by_place j last (inl e) from = subst (λ i. row < row_at ws i) e over
      by_place j last (inr (inl lt)) from = let x = rows_rise 0 ws (base + half) j rise lt last in omega (arith, x, over)
      by_place j last (inr (inr gt)) from = absurd (omega (arith, gt, from, less))

  -- whichever it is, a number that says so leads there
  pub narrower : IsAscending ws → (bit : ℕ) → (row_at ws (base + half) ≤ row → bit ≡ 1) → (row < row_at ws (base + half) → bit ≡ 0) → Searching ws row (base + half * bit) (size - half)
  narrower rise bit one none = elim (cases_lt row (row_at ws (base + half))) [
    | inl over ↦ let e : base ≡ base + half * bit = rw (none over) (omega arith) in subst (λ b. Searching ws row b (size - half)) e (lower_half rise over)
    | inr under ↦ let e : base + half ≡ base + half * bit = rw (one under) (omega arith) in subst (λ b. Searching ws row b (size - half)) e (upper_half under)
  ]

-- the gap for a row behind the last place that is below it
pub gap_behind : (ws : List Stored) (row at : ℕ) → IsAscending ws → at < length ws → row_at ws at < row → ((j : ℕ) → at < j → j < length ws → row < row_at ws j) → IsGapFor ws row (at + 1)
gap_behind ws row at rise within under above = record {
  in_range = omega (arith, within);
  lower_before = λ j before. by_place j (cases_lt j at) before;
  higher_after = λ j from last. above j (omega (arith, from)) last;
}
  where
    by_place : (j : ℕ) → (j < at) ⊎ (at ≤ j) → j < at + 1 → row_at ws j < row
    by_place j (inl lt) before = let x = rows_rise 0 ws j at rise lt within in omega (arith, x, under)
    by_place j (inr ge) before = let e : at ≡ j = omega (arith, before, ge) in subst (λ i. row_at ws i < row) e under
