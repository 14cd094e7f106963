-- Rows of words and lists of memories as the states of cells.
use Rattle.std.proofs.Common.{◌≡◌, ℕ, zero, suc, ◌-◌, ◌<◌, ◌≤◌, ◌∙◌, ◌⊎◌, inl, inr, sym, ap, subst, refl, arith, true, false, cond, eqb, ◌&&◌, eq-eqb, Option, None, Some, List, [], ◌∷◌, length, map, get_or, unwrap_or}
use Rattle.std.specs.List.{range_with_len}
use Rattle.std.proofs.Math.ListN.{set, length-set}
use Rattle.std.proofs.lemmas.Bool.{cases_lt, cases_eq, ne_eqb}
use Rattle.std.proofs.lemmas.List.{get_or_past, get_or-set_same, get_or-set_other}
use Rattle.std.proofs.lemmas.List.FromFn.{length-map-range_with_len, get_or-map-range_with_len, fill_by_all}
use Rattle.grid_law.specs.Codec.{Codec}
use Rattle.change_rows.specs.Cells.{found}
use Rattle.change_rows.specs.Rows.{Table as Words, words_at, overlaid, IsWhole}
use Rattle.change_lists.specs.Changes.{Changes, list_at, standing, held_at as memory_at}
use Rattle.cell_states.specs.Codes.{state_of, IsCode}
use Rattle.cell_states.specs.Coded.{coded_at, states_in, IsCoded}
use Rattle.cell_states.specs.Kept.{AreSameCells}
use Rattle.cell_states.specs.Stated.{Stated, state_at, IsAsMany, IsSameStates, IsOtherState}
use Rattle.cell_states.proofs.Cases.{at_set, lens_set}
use Rattle.cell_states.proofs.Codes.{same_code, code_along, no_state, no_code}

-- there are no words where there is no cell
pub none_past : (words : Words) (t c : ℕ) → length words.rows ≤ t → words_at words.rows t c ≡ []
none_past words t c h = ap (λ row. get_or row c []) (get_or_past words.rows t [] h)

pub none_beside : (words : Words) → IsWhole words → (t c : ℕ) → words.width ≤ c → words_at words.rows t c ≡ []
none_beside words whole t c h = by_cycle (cases_lt t (length words.rows))
  where
    by_cycle : (t < length words.rows) ⊎ (length words.rows ≤ t) → words_at words.rows t c ≡ []
    by_cycle (inl k) = get_or_past (get_or words.rows t []) c [] (omega (arith, h, whole t k))
    by_cycle (inr k) = none_past words t c k

-- words are of the same cells as they are
pub same_cells : (words : Words) → AreSameCells words words
same_cells words = record {
  width = refl;
  cycles = refl;
  lens = λ t. refl;
}

-- one cell's words over those of a row
pub overlaid_one : (row : List (List ℕ)) (c : ℕ) (ws : List ℕ) → c < length row → overlaid row (record { component = c; words = ws } ∷ []) ≡ set row c ws
overlaid_one row c ws h =
    sym (fill_by_all (λ d. unwrap_or (found (record { component = c; words = ws } ∷ []) d) (get_or row d [])) (set row c ws) (length row) [] (length-set row c ws) (λ d k. by_place d (cases_eq d c)))
  where
    by_place : (d : ℕ) → (d ≡ c) ⊎ (d ≡ c → ⊥) → get_or (set row c ws) d [] ≡ unwrap_or (found (record { component = c; words = ws } ∷ []) d) (get_or row d [])
    by_place d (inl p) = ap (λ i. get_or (set row c ws) i []) p ∙ get_or-set_same row c ws [] h ∙ ap (λ b. unwrap_or (cond b (Some ws) None) (get_or row d [])) (sym (eq-eqb c d (sym p)))
    by_place d (inr p) = get_or-set_other row c d ws [] p ∙ ap (λ b. unwrap_or (cond b (Some ws) None) (get_or row d [])) (sym (ne_eqb c d (λ e. p (sym e))))

module _ {State Memory : Type 0} (C : Codec State Memory) where
  module _ (words : Words) (memories : List (Changes Memory)) where
    pub length_states : length (states_in C words memories).rows ≡ length words.rows
    length_states = length-map-range_with_len _ 0 (length words.rows)

    row_there : (t : ℕ) → t < length words.rows → get_or (states_in C words memories).rows t [] ≡ map (coded_at C words memories t) (range_with_len 0 words.width)
    row_there t h = get_or-map-range_with_len (λ t. map (coded_at C words memories t) (range_with_len 0 words.width)) 0 (length words.rows) t t [] h (omega arith)

    pub length_row : (t : ℕ) → t < length words.rows → length (get_or (states_in C words memories).rows t []) ≡ words.width
    length_row t h = ap length (row_there t h) ∙ length-map-range_with_len _ 0 words.width

    pub length_past : (t : ℕ) → length words.rows ≤ t → length (get_or (states_in C words memories).rows t []) ≡ 0
    length_past t h = ap length (get_or_past (states_in C words memories).rows t [] (omega (arith, h, length_states)))

    -- the state of each cell is what its words and memory say, also where there is no cell
    pub state_is : IsWhole words → (t c : ℕ) → state_at (states_in C words memories) t c ≡ coded_at C words memories t c
    state_is whole t c = by_place (cases_lt t (length words.rows)) (cases_lt c words.width)
      where
        by_place : (t < length words.rows) ⊎ (length words.rows ≤ t) → (c < words.width) ⊎ (words.width ≤ c) → state_at (states_in C words memories) t c ≡ coded_at C words memories t c
        by_place (inl h) (inl k) = ap (λ row. get_or row c None) (row_there t h) ∙ get_or-map-range_with_len (coded_at C words memories t) 0 words.width c c None k (omega arith)
        by_place (inl h) (inr k) =
            get_or_past (get_or (states_in C words memories).rows t []) c None (omega (arith, length_row t h, k))
            ∙ sym (no_state C (words_at words.rows t c) (memory_at memories c t) (none_beside words whole t c k))
        by_place (inr h) k =
            ap (λ row. get_or row c None) (get_or_past (states_in C words memories).rows t [] (omega (arith, h, length_states)))
            ∙ sym (no_state C (words_at words.rows t c) (memory_at memories c t) (none_past words t c h))

    -- what is seen of them
    module _ (states : Stated State) (e : states_in C words memories ≡ states) where
      pub seen_width : states.width ≡ words.width
      seen_width = ap (λ (s : Stated State). s.width) (sym e)

      pub seen_cycles : length states.rows ≡ length words.rows
      seen_cycles = ap (λ (s : Stated State). length s.rows) (sym e) ∙ length_states

      pub seen_at : IsWhole words → (t c : ℕ) → state_at states t c ≡ coded_at C words memories t c
      seen_at whole t c = ap (λ s. state_at s t c) (sym e) ∙ state_is whole t c

  -- other words and memories of the same cells
  module _ (words words1 : Words) (memories memories1 : List (Changes Memory)) (coded : IsCoded C words memories) (cells : AreSameCells words words1) where
    pub whole_along : IsWhole words1
    whole_along t h = cells.lens t ∙ coded.whole t (omega (arith, h, cells.cycles)) ∙ sym cells.width

    pub coded_along : length memories1 ≡ length memories → ((t c : ℕ) → t < length words.rows → c < words.width → IsCode C (words_at words1.rows t c) (memory_at memories1 c t)) → IsCoded C words1 memories1
    coded_along many each = record {
      whole = whole_along;
      many = many ∙ coded.many ∙ sym cells.width;
      codes = λ t c. by_place t c (cases_lt t (length words.rows)) (cases_lt c words.width);
    }
      where
        by_place : (t c : ℕ) → (t < length words.rows) ⊎ (length words.rows ≤ t) → (c < words.width) ⊎ (words.width ≤ c) → IsCode C (words_at words1.rows t c) (memory_at memories1 c t)
        by_place t c (inl h) (inl k) = each t c h k
        by_place t c (inl h) (inr k) = no_code C _ _ (none_beside words1 whole_along t c (omega (arith, k, cells.width)))
        by_place t c (inr h) k = no_code C _ _ (none_past words1 t c (omega (arith, h, cells.cycles)))

    pub many_along : IsAsMany (states_in C words memories) (states_in C words1 memories1)
    many_along = record {
      width = cells.width;
      cycles = length_states words1 memories1 ∙ cells.cycles ∙ sym (length_states words memories);
      lens = λ t. by_cycle t (cases_lt t (length words.rows));
    }
      where
        by_cycle : (t : ℕ) → (t < length words.rows) ⊎ (length words.rows ≤ t) → length (get_or (states_in C words1 memories1).rows t []) ≡ length (get_or (states_in C words memories).rows t [])
        by_cycle t (inl h) = length_row words1 memories1 t (omega (arith, h, cells.cycles)) ∙ cells.width ∙ sym (length_row words memories t h)
        by_cycle t (inr h) = length_past words1 memories1 t (omega (arith, h, cells.cycles)) ∙ sym (length_past words memories t h)

    -- where a cell has the words and the memory that another one had, it has the state of that one; it may be that there is none
    pub state_along : (t c u d : ℕ) → words_at words1.rows t c ≡ words_at words.rows u d → (t < length words.rows → memory_at memories1 c t ≡ memory_at memories d u) → state_at (states_in C words1 memories1) t c ≡ state_at (states_in C words memories) u d
    state_along t c u d e m = state_is words1 memories1 whole_along t c ∙ by_cycle (cases_lt t (length words.rows)) ∙ sym (state_is words memories coded.whole u d)
      where
        by_cycle : (t < length words.rows) ⊎ (length words.rows ≤ t) → coded_at C words1 memories1 t c ≡ coded_at C words memories u d
        by_cycle (inl h) = same_code C _ _ _ _ e (m h)
        by_cycle (inr h) = let none = none_past words1 t c (omega (arith, h, cells.cycles)) in no_state C _ _ none ∙ sym (no_state C _ _ (sym e ∙ none))

  -- what stands where a list of changes is the same
  pub memory_along : (memories memories1 : List (Changes Memory)) (c t : ℕ) → list_at memories1 c ≡ list_at memories c → memory_at memories1 c t ≡ memory_at memories c t
  memory_along memories memories1 c t e = ap (λ begun. standing begun t None) e

  -- nothing is changed of what is seen
  module _ (words : Words) (memories memories1 : List (Changes Memory)) (coded : IsCoded C words memories) (same : (c t : ℕ) → memory_at memories1 c t ≡ memory_at memories c t) where
    pub coded_same : length memories1 ≡ length memories → IsCoded C words memories1
    coded_same many = coded_along words words memories memories1 coded (same_cells words) many (λ t c h k. code_along C _ _ _ _ refl (same c t) (coded.codes t c))

    pub states_same : IsSameStates (states_in C words memories) (states_in C words memories1)
    states_same = record {
      many = many_along words words memories memories1 coded (same_cells words);
      same = λ t c. state_along words words memories memories1 coded (same_cells words) t c t c refl (λ h. same c t);
    }

  module _ (words words1 : Words) (memories memories1 : List (Changes Memory)) (coded : IsCoded C words memories) (rows : words1 ≡ words) (same : (c t : ℕ) → memory_at memories1 c t ≡ memory_at memories c t) where
    pub coded_err : length memories1 ≡ length memories → IsCoded C words1 memories1
    coded_err many = subst (λ w. IsCoded C w memories1) (sym rows) (coded_same words memories memories1 coded same many)

    pub states_err : (s : Stated State) → states_in C words memories ≡ s → IsSameStates s (states_in C words1 memories1)
    states_err s e = subst (λ v. IsSameStates v (states_in C words1 memories1)) e (subst (λ w. IsSameStates (states_in C words memories) (states_in C w memories1)) (sym rows) (states_same words memories memories1 coded same))

  -- one cell has other words and another memory
  module _ (words words1 : Words) (memories memories1 : List (Changes Memory)) (coded : IsCoded C words memories) (t c : ℕ) (there : t < length words.rows) (inside : c < words.width) (ws : List ℕ) (m : Option Memory) (code : IsCode C ws m)
      (put : words1 ≡ record { width = words.width; rows = set words.rows t (overlaid (get_or words.rows t []) (record { component = c; words = ws } ∷ [])) })
      (here : memory_at memories1 c t ≡ m) (others : (d : ℕ) → (d ≡ c → ⊥) → list_at memories1 d ≡ list_at memories d) (at_others : (u : ℕ) → u < length words.rows → (u ≡ t → ⊥) → memory_at memories1 c u ≡ memory_at memories c u) where
    rows_put : words1.rows ≡ set words.rows t (set (get_or words.rows t []) c ws)
    rows_put = ap (λ (w : Words). w.rows) put ∙ ap (set words.rows t) (overlaid_one (get_or words.rows t []) c ws (omega (arith, inside, coded.whole t there)))

    width : words1.width ≡ words.width
    width = ap (λ (w : Words). w.width) put

    cycles : length words1.rows ≡ length words.rows
    cycles = ap length rows_put ∙ length-set words.rows t _

    lens : (u : ℕ) → length (get_or words1.rows u []) ≡ length (get_or words.rows u [])
    lens u = ap (λ rows. length (get_or rows u [])) rows_put ∙ lens_set words.rows t c ws u

    cells : AreSameCells words words1
    cells = record {
      width = width;
      cycles = cycles;
      lens = lens;
    }

    words_put : (u d : ℕ) → words_at words1.rows u d ≡ cond ((eqb u t) && (eqb d c)) ws (words_at words.rows u d)
    words_put u d = ap (λ rows. words_at rows u d) rows_put ∙ at_set words.rows t c ws [] there (omega (arith, inside, coded.whole t there)) u d

    words_here : words_at words1.rows t c ≡ ws
    words_here = words_put t c ∙ rw (eq-eqb t t refl, eq-eqb c c refl) refl

    -- all others have what they had
    memory_other : (u d : ℕ) → u < length words.rows → (d ≡ c) ⊎ (d ≡ c → ⊥) → (u ≡ t) ⊎ (u ≡ t → ⊥) → (u ≡ t → d ≡ c → ⊥) → memory_at memories1 d u ≡ memory_at memories d u
    memory_other u d h (inr q) p n = memory_along memories memories1 d u (others d q)
    memory_other u d h (inl q) (inl p) n = absurd (n p q)
    memory_other u d h (inl q) (inr p) n = subst (λ k. memory_at memories1 k u ≡ memory_at memories k u) (sym q) (at_others u h p)

    -- it is the cell, or another one
    is_cell : (u d : ℕ) → (((eqb u t) && (eqb d c) ≡ true) × (u ≡ t) × (d ≡ c)) ⊎ (((eqb u t) && (eqb d c) ≡ false) × (u ≡ t → d ≡ c → ⊥))
    is_cell u d = by_place (cases_eq u t) (cases_eq d c)
      where
        by_place : (u ≡ t) ⊎ (u ≡ t → ⊥) → (d ≡ c) ⊎ (d ≡ c → ⊥) → (((eqb u t) && (eqb d c) ≡ true) × (u ≡ t) × (d ≡ c)) ⊎ (((eqb u t) && (eqb d c) ≡ false) × (u ≡ t → d ≡ c → ⊥))
        by_place (inl p) (inl q) = inl (rw (eq-eqb u t p, eq-eqb d c q) refl, p, q)
        by_place (inl p) (inr q) = inr (rw (eq-eqb u t p, ne_eqb d c q) refl, λ a b. q b)
        by_place (inr p) q = inr (rw (ne_eqb u t p) refl, λ a b. p a)

    pub coded_put : length memories1 ≡ length memories → IsCoded C words1 memories1
    coded_put many = coded_along words words1 memories memories1 coded cells many (λ u d h k. by_cell u d h (is_cell u d))
      where
        by_cell : (u d : ℕ) → u < length words.rows → (((eqb u t) && (eqb d c) ≡ true) × (u ≡ t) × (d ≡ c)) ⊎ (((eqb u t) && (eqb d c) ≡ false) × (u ≡ t → d ≡ c → ⊥)) → IsCode C (words_at words1.rows u d) (memory_at memories1 d u)
        by_cell u d h (inl p) =
            code_along C _ _ _ _ (words_put u d ∙ ap (λ b. cond b ws (words_at words.rows u d)) p.0) (ap (λ k. memory_at memories1 k u) p.2 ∙ ap (memory_at memories1 c) p.1 ∙ here) code
        by_cell u d h (inr p) =
            code_along C _ _ _ _ (words_put u d ∙ ap (λ b. cond b ws (words_at words.rows u d)) p.0) (memory_other u d h (cases_eq d c) (cases_eq u t) p.1) (coded.codes u d)

    pub other_state : IsOtherState (states_in C words memories) (states_in C words1 memories1) t c (state_of C ws m)
    other_state = record {
      many = many_along words words1 memories memories1 coded cells;
      at = λ u d. by_cell u d (is_cell u d);
    }
      where
        by_cell : (u d : ℕ) → (((eqb u t) && (eqb d c) ≡ true) × (u ≡ t) × (d ≡ c)) ⊎ (((eqb u t) && (eqb d c) ≡ false) × (u ≡ t → d ≡ c → ⊥)) → state_at (states_in C words1 memories1) u d ≡ cond ((eqb u t) && (eqb d c)) (state_of C ws m) (state_at (states_in C words memories) u d)
        by_cell u d (inl p) =
            state_is words1 memories1 (whole_along words words1 memories memories1 coded cells) u d
            ∙ same_code C _ _ _ _ (words_put u d ∙ ap (λ b. cond b ws (words_at words.rows u d)) p.0) (ap (λ k. memory_at memories1 k u) p.2 ∙ ap (memory_at memories1 c) p.1 ∙ here)
            ∙ ap (λ b. cond b (state_of C ws m) (state_at (states_in C words memories) u d)) (sym p.0)
        by_cell u d (inr p) =
            state_along words words1 memories memories1 coded cells u d u d (words_put u d ∙ ap (λ b. cond b ws (words_at words.rows u d)) p.0) (λ h. memory_other u d h (cases_eq d c) (cases_eq u t) p.1)
            ∙ ap (λ b. cond b (state_of C ws m) (state_at (states_in C words memories) u d)) (sym p.0)

    pub other_seen : (s : Stated State) → states_in C words memories ≡ s → (o : Option State) → state_of C ws m ≡ o → IsOtherState s (states_in C words1 memories1) t c o
    other_seen s e o is = subst (λ v. IsOtherState v (states_in C words1 memories1) t c o) e (subst (λ o. IsOtherState (states_in C words memories) (states_in C words1 memories1) t c o) is other_state)

-- the same states are as many
pub many_same : {State : Type 0} (s : Stated State) → IsAsMany s s
many_same s = record { width = refl; cycles = refl; lens = λ t. refl }

-- a value that stays step by step stays
pub stands : {X : Type 0} (f : ℕ → X) (t n : ℕ) → ((u : ℕ) → t < u → u < n → f u ≡ f (u - 1)) → (u : ℕ) → t ≤ u → u < n → f u ≡ f t
stands f t n step zero h k = ap f (omega (arith, h))
stands f t n step (suc u) h k = by_cycle (cases_lt t (suc u)) (λ l. stands f t n step u (omega (arith, l)) (omega (arith, k)))
  where
    by_cycle : (t < suc u) ⊎ (suc u ≤ t) → (t < suc u → f u ≡ f t) → f (suc u) ≡ f t
    by_cycle (inl l) rest = let e : suc u - 1 ≡ u = omega arith in step (suc u) l k ∙ ap f e ∙ rest l
    by_cycle (inr l) rest = let e : suc u ≡ t = omega (arith, h, l) in ap f e
