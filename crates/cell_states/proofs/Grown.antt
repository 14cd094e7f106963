-- States of new cells, of fewer cycles and of more.
use Rattle.std.proofs.Common.{◌≡◌, ℕ, ◌+◌, ◌-◌, ◌<◌, ◌≤◌, ◌∙◌, ◌⊎◌, inl, inr, sym, ap, refl, arith, Option, None, List, [], ◌++◌, length, length-append, map, take, replicate, get_or, min}
use Rattle.std.specs.List.{range_with_len}
use Rattle.std.proofs.lemmas.Bool.{cases_lt}
use Rattle.std.proofs.lemmas.List.{get_or_past, get_or-replicate, length-replicate, get_or-append_right, get_or_append_left, get_or-take, length-take}
use Rattle.std.proofs.lemmas.List.FromFn.{fill_by_all}
use Rattle.grid_law.specs.Codec.{Codec}
use Rattle.change_rows.specs.Rows.{Table as Words, words_at}
use Rattle.change_lists.specs.Changes.{Changes, list_at, held_at as memory_at, IsCut}
use Rattle.cell_states.specs.Codes.{IsCode}
use Rattle.cell_states.specs.Coded.{coded_at, states_in, IsCoded}
use Rattle.cell_states.specs.Stated.{Stated, state_at}
use Rattle.cell_states.proofs.Codes.{same_code, code_along, no_state, no_code}
use Rattle.cell_states.proofs.Coded.{none_past, length_row, seen_width, seen_cycles, seen_at}

module _ {State Memory : Type 0} (C : Codec State Memory) where
  -- states, cell by cell
  pub states_are : (s : Stated State) (words : Words) (memories : List (Changes Memory)) → s.width ≡ words.width → length s.rows ≡ length words.rows → ((t : ℕ) → t < length words.rows → length (get_or s.rows t []) ≡ words.width) → ((t c : ℕ) → t < length words.rows → c < words.width → state_at s t c ≡ coded_at C words memories t c) → states_in C words memories ≡ s
  states_are s words memories width cycles lens at =
      ap (λ (w : ℕ). stated w (states_in C words memories).rows) (sym width)
      ∙ ap (stated s.width) (sym (fill_by_all (λ t. map (coded_at C words memories t) (range_with_len 0 words.width)) s.rows (length words.rows) [] cycles (λ t h. fill_by_all (coded_at C words memories t) (get_or s.rows t []) words.width None (lens t h) (λ c k. at t c h k))))
    where
      stated : ℕ → List (List (Option State)) → Stated State
      stated w rows = record { width = w; rows = rows }

  -- new cells have no words
  module _ (words : Words) (memories : List (Changes Memory)) (w n : ℕ) (e : words ≡ record { width = w; rows = replicate n (replicate w []) }) where
    none_new : (t c : ℕ) → words_at words.rows t c ≡ []
    none_new t c = ap (λ (k : Words). words_at k.rows t c) e ∙ by_place (cases_lt t n) (cases_lt c w)
      where
        by_place : (t < n) ⊎ (n ≤ t) → (c < w) ⊎ (w ≤ c) → words_at (replicate n (replicate w [])) t c ≡ []
        by_place (inl h) (inl k) = ap (λ row. get_or row c []) (get_or-replicate n t (replicate w []) [] h) ∙ get_or-replicate w c [] [] k
        by_place (inl h) (inr k) = ap (λ row. get_or row c []) (get_or-replicate n t (replicate w []) [] h) ∙ get_or_past (replicate w []) c [] (let none : List ℕ = [] in omega (arith, k, length-replicate w none))
        by_place (inr h) k = ap (λ row. get_or row c []) (get_or_past (replicate n (replicate w [])) t [] (let none : List ℕ = [] in omega (arith, h, length-replicate n (replicate w none))))

    width : words.width ≡ w
    width = ap (λ (k : Words). k.width) e

    cycles : length words.rows ≡ n
    cycles = ap (λ (k : Words). length k.rows) e ∙ length-replicate n _

    pub coded_new : length memories ≡ w → IsCoded C words memories
    coded_new many = record {
      whole = λ t h. ap (λ (k : Words). length (get_or k.rows t [])) e ∙ ap length (get_or-replicate n t (replicate w []) [] (omega (arith, h, cycles))) ∙ length-replicate w _ ∙ sym width;
      many = many ∙ sym width;
      codes = λ t c. no_code C _ _ (none_new t c);
    }

    pub states_new : states_in C words memories ≡ record { width = w; rows = replicate n (replicate w None) }
    states_new =
        states_are (record { width = w; rows = replicate n (replicate w None) }) words memories (sym width) (length-replicate n _ ∙ sym cycles)
        (λ t h. ap length (get_or-replicate n t (replicate w None) [] (omega (arith, h, cycles))) ∙ length-replicate w _ ∙ sym width)
        (λ t c h k. ap (λ row. get_or row c None) (get_or-replicate n t (replicate w None) [] (omega (arith, h, cycles))) ∙ get_or-replicate w c None None (omega (arith, k, width)) ∙ sym (no_state C _ _ (none_new t c)))

  module _ (words words1 : Words) (memories memories1 : List (Changes Memory)) (coded : IsCoded C words memories) (s : Stated State) (e : states_in C words memories ≡ s) where
    row_is : (t : ℕ) → t < length words.rows → length (get_or s.rows t []) ≡ words.width
    row_is t h = ap (λ (k : Stated State). length (get_or k.rows t [])) (sym e) ∙ length_row C words memories t h

    -- fewer cycles
    module _ (n : ℕ) (cut : words1 ≡ record { width = words.width; rows = take n words.rows }) (cuts : (c : ℕ) → IsCut (list_at memories c) (list_at memories1 c) n) where
      width_cut : words1.width ≡ words.width
      width_cut = ap (λ (k : Words). k.width) cut

      cycles_cut : length words1.rows ≡ min n (length words.rows)
      cycles_cut = ap (λ (k : Words). length k.rows) cut ∙ length-take n words.rows

      row_cut : (t : ℕ) → t < n → get_or words1.rows t [] ≡ get_or words.rows t []
      row_cut t h = ap (λ (k : Words). get_or k.rows t []) cut ∙ get_or-take n words.rows t [] h

      pub coded_cut : length memories1 ≡ length memories → IsCoded C words1 memories1
      coded_cut many = record {
        whole = λ t h. ap length (row_cut t (omega (arith, h, cycles_cut))) ∙ coded.whole t (omega (arith, h, cycles_cut)) ∙ sym width_cut;
        many = many ∙ coded.many ∙ sym width_cut;
        codes = λ t c. by_cycle t c (cases_lt t n);
      }
        where
          by_cycle : (t c : ℕ) → (t < n) ⊎ (n ≤ t) → IsCode C (words_at words1.rows t c) (memory_at memories1 c t)
          by_cycle t c (inl h) = code_along C _ _ _ _ (ap (λ row. get_or row c []) (row_cut t h)) ((cuts c).earlier t h) (coded.codes t c)
          by_cycle t c (inr h) = no_code C _ _ (none_past words1 t c (omega (arith, h, cycles_cut)))

      pub states_cut : states_in C words1 memories1 ≡ record { width = s.width; rows = take n s.rows }
      states_cut =
          states_are (record { width = s.width; rows = take n s.rows }) words1 memories1 (seen_width C words memories s e ∙ sym width_cut)
          (length-take n s.rows ∙ ap (min n) (seen_cycles C words memories s e) ∙ sym cycles_cut)
          (λ t h. ap length (get_or-take n s.rows t [] (omega (arith, h, cycles_cut))) ∙ row_is t (omega (arith, h, cycles_cut)) ∙ sym width_cut)
          (λ t c h k.
          let l : t < n = omega (arith, h, cycles_cut) in
          ap (λ row. get_or row c None) (get_or-take n s.rows t [] l) ∙ seen_at C words memories s e coded.whole t c
          ∙ same_code C _ _ _ _ (sym (ap (λ row. get_or row c []) (row_cut t l))) (sym ((cuts c).earlier t l)))

    -- more cycles, of cells without words
    module _ (m : ℕ) (more : words1 ≡ record { width = words.width; rows = words.rows ++ replicate m (replicate words.width []) }) where
      width_more : words1.width ≡ words.width
      width_more = ap (λ (k : Words). k.width) more

      cycles_more : length words1.rows ≡ length words.rows + m
      cycles_more = ap (λ (k : Words). length k.rows) more ∙ length-append words.rows _ ∙ ap (λ k. length words.rows + k) (length-replicate m _)

      row_before : (t : ℕ) → t < length words.rows → get_or words1.rows t [] ≡ get_or words.rows t []
      row_before t h = ap (λ (k : Words). get_or k.rows t []) more ∙ get_or_append_left words.rows _ [] t h

      row_behind : (t : ℕ) → length words.rows ≤ t → t < length words.rows + m → get_or words1.rows t [] ≡ replicate words.width []
      row_behind t h k = ap (λ (k : Words). get_or k.rows t []) more ∙ get_or-append_right words.rows _ (length words.rows) t [] refl h ∙ get_or-replicate m (t - length words.rows) (replicate words.width []) [] (omega (arith, h, k))

      none_behind : (t c : ℕ) → length words.rows ≤ t → words_at words1.rows t c ≡ []
      none_behind t c h = by_place (cases_lt t (length words.rows + m)) (cases_lt c words.width)
        where
          by_place : (t < length words.rows + m) ⊎ (length words.rows + m ≤ t) → (c < words.width) ⊎ (words.width ≤ c) → words_at words1.rows t c ≡ []
          by_place (inl k) (inl l) = ap (λ row. get_or row c []) (row_behind t h k) ∙ get_or-replicate words.width c [] [] l
          by_place (inl k) (inr l) = ap (λ row. get_or row c []) (row_behind t h k) ∙ get_or_past (replicate words.width []) c [] (let none : List ℕ = [] in omega (arith, l, length-replicate words.width none))
          by_place (inr k) l = none_past words1 t c (omega (arith, k, cycles_more))

      pub coded_more : IsCoded C words1 memories
      coded_more = record {
        whole = λ t h. by_row t (omega (arith, h, cycles_more)) (cases_lt t (length words.rows)) ∙ sym width_more;
        many = coded.many ∙ sym width_more;
        codes = λ t c. by_cycle t c (cases_lt t (length words.rows));
      }
        where
          by_row : (t : ℕ) → t < length words.rows + m → (t < length words.rows) ⊎ (length words.rows ≤ t) → length (get_or words1.rows t []) ≡ words.width
          by_row t h (inl k) = ap length (row_before t k) ∙ coded.whole t k
          by_row t h (inr k) = ap length (row_behind t k h) ∙ length-replicate words.width _

          by_cycle : (t c : ℕ) → (t < length words.rows) ⊎ (length words.rows ≤ t) → IsCode C (words_at words1.rows t c) (memory_at memories c t)
          by_cycle t c (inl h) = code_along C _ _ _ _ (ap (λ row. get_or row c []) (row_before t h)) refl (coded.codes t c)
          by_cycle t c (inr h) = no_code C _ _ (none_behind t c h)

      pub states_more : states_in C words1 memories ≡ record { width = s.width; rows = s.rows ++ replicate m (replicate s.width None) }
      states_more =
          states_are (record { width = s.width; rows = s.rows ++ replicate m (replicate s.width None) }) words1 memories (seen_width C words memories s e ∙ sym width_more)
          (length-append s.rows _ ∙ (let none : Option State = None in omega (arith, seen_cycles C words memories s e, cycles_more, length-replicate m (replicate s.width none))))
          (λ t h. len t (omega (arith, h, cycles_more)) (cases_lt t (length words.rows)))
          (λ t c h k. at t c (omega (arith, h, cycles_more)) (omega (arith, k, width_more)) (cases_lt t (length words.rows)))
        where
          before : (t : ℕ) → t < length words.rows → get_or (s.rows ++ replicate m (replicate s.width None)) t [] ≡ get_or s.rows t []
          before t h = get_or_append_left s.rows _ [] t (omega (arith, h, seen_cycles C words memories s e))

          behind : (t : ℕ) → length words.rows ≤ t → t < length words.rows + m → get_or (s.rows ++ replicate m (replicate s.width None)) t [] ≡ replicate s.width None
          behind t h k = get_or-append_right s.rows _ (length words.rows) t [] (seen_cycles C words memories s e) h ∙ get_or-replicate m (t - length words.rows) (replicate s.width None) [] (omega (arith, h, k))

          len : (t : ℕ) → t < length words.rows + m → (t < length words.rows) ⊎ (length words.rows ≤ t) → length (get_or (s.rows ++ replicate m (replicate s.width None)) t []) ≡ words1.width
          len t h (inl k) = ap length (before t k) ∙ row_is t k ∙ sym width_more
          len t h (inr k) = ap length (behind t k h) ∙ length-replicate s.width _ ∙ seen_width C words memories s e ∙ sym width_more

          at : (t c : ℕ) → t < length words.rows + m → c < words.width → (t < length words.rows) ⊎ (length words.rows ≤ t) → get_or (get_or (s.rows ++ replicate m (replicate s.width None)) t []) c None ≡ coded_at C words1 memories t c
          at t c h i (inl k) = ap (λ row. get_or row c None) (before t k) ∙ seen_at C words memories s e coded.whole t c ∙ same_code C _ _ _ _ (sym (ap (λ row. get_or row c []) (row_before t k))) refl
          at t c h i (inr k) = ap (λ row. get_or row c None) (behind t k h) ∙ get_or-replicate s.width c None None (omega (arith, i, seen_width C words memories s e)) ∙ sym (no_state C _ _ (none_behind t c k))
