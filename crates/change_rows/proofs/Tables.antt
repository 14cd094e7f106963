-- The words of all cells.
use Rattle.std.proofs.Common.{◌-◌, min, ◌≡◌, ℕ, ◌+◌, ◌<◌, ◌≤◌, ◌∙◌, ◌⊎◌, inl, inr, sym, ap, refl, arith, Bool, cond, eqb, ◌&&◌, unwrap_or, List, [], ◌++◌, length, map, get_or, replicate, take}
use Rattle.std.specs.List.{range_with_len}
use Rattle.std.proofs.Math.ListN.{set, length-set}
use Rattle.std.proofs.lemmas.Bool.{cases_eq, cases_lt, eq-eqb, ne_eqb}
use Rattle.std.proofs.lemmas.List.{get_or-set_same, get_or-set_other, get_or_past, get_or_append_left, get_or-append_right, get_or-replicate, get_or-take, length-take, length-append, length-replicate}
use Rattle.std.proofs.lemmas.List.FromFn.{length-map-range_with_len, get_or-map-range_with_len, fill_by_all}
use Rattle.change_rows.specs.Cells.{Held, found}
use Rattle.change_rows.specs.Marks.{is_in}
use Rattle.change_rows.specs.Rows.{words_at, overlaid, replaced, filled}
use Rattle.change_rows.specs.Changes.{table}

abbrev row_of : (ℕ → ℕ → List ℕ) → ℕ → ℕ → List (List ℕ)
row_of f width t = map (f t) (range_with_len 0 width)

pub length_table : (f : ℕ → ℕ → List ℕ) (n width : ℕ) → length (table f n width) ≡ n
length_table f n width = length-map-range_with_len (row_of f width) 0 n

pub row_table : (f : ℕ → ℕ → List ℕ) (n width t : ℕ) → t < n → get_or (table f n width) t [] ≡ map (f t) (range_with_len 0 width)
row_table f n width t h = get_or-map-range_with_len (row_of f width) 0 n t t [] h (omega arith)

pub length_row : (f : ℕ → ℕ → List ℕ) (n width t : ℕ) → t < n → length (get_or (table f n width) t []) ≡ width
length_row f n width t h = ap length (row_table f n width t h) ∙ length-map-range_with_len (f t) 0 width

pub at_table : (f : ℕ → ℕ → List ℕ) (n width t c : ℕ) → t < n → c < width → words_at (table f n width) t c ≡ f t c
at_table f n width t c h l =
    ap (λ (r : List (List ℕ)). get_or r c []) (row_table f n width t h) ∙ get_or-map-range_with_len (f t) 0 width c c [] l (omega arith)

pub past_rows : (f : ℕ → ℕ → List ℕ) (n width t c : ℕ) → n ≤ t → words_at (table f n width) t c ≡ []
past_rows f n width t c h = ap (λ (r : List (List ℕ)). get_or r c []) (get_or_past (table f n width) t [] (omega (arith, length_table f n width)))

pub past_cells : (f : ℕ → ℕ → List ℕ) (n width t c : ℕ) → t < n → width ≤ c → words_at (table f n width) t c ≡ []
past_cells f n width t c h l = get_or_past (get_or (table f n width) t []) c [] (omega (arith, length_row f n width t h))

-- a cell that isn't there has no words
pub no_cell_there : (f : ℕ → ℕ → List ℕ) (n width t c : ℕ) → (n ≤ t) ⊎ (width ≤ c) → words_at (table f n width) t c ≡ []
no_cell_there f n width t c (inl h) = past_rows f n width t c h
no_cell_there f n width t c (inr l) = by_row (cases_lt t n)
  where
    by_row : (t < n) ⊎ (n ≤ t) → words_at (table f n width) t c ≡ []
    by_row (inl h) = past_cells f n width t c h l
    by_row (inr h) = past_rows f n width t c h

row_same : (f g : ℕ → ℕ → List ℕ) (width t : ℕ) → ((c : ℕ) → c < width → f t c ≡ g t c) → row_of f width t ≡ row_of g width t
row_same f g width t same =
    fill_by_all (g t) (row_of f width t) width [] (length-map-range_with_len (f t) 0 width)
    (λ c h. get_or-map-range_with_len (f t) 0 width c c [] h (omega arith) ∙ same c h)

pub table_same : (f g : ℕ → ℕ → List ℕ) (n width : ℕ) → ((t c : ℕ) → t < n → c < width → f t c ≡ g t c) → table f n width ≡ table g n width
table_same f g n width same =
    fill_by_all (row_of g width) (table f n width) n [] (length_table f n width)
    (λ t h. row_table f n width t h ∙ row_same f g width t (λ c l. same t c h l))

pub table_put : (f g : ℕ → ℕ → List ℕ) (n width t : ℕ) (cells : List Held) → t < n → ((u c : ℕ) → u < n → c < width → g u c ≡ cond (eqb u t) (unwrap_or (found cells c) (f u c)) (f u c)) → table g n width ≡ set (table f n width) t (overlaid (get_or (table f n width) t []) cells)
table_put f g n width t cells here same =
    sym (fill_by_all (row_of g width) (set (table f n width) t (overlaid (get_or (table f n width) t []) cells)) n [] (length-set (table f n width) t (overlaid (get_or (table f n width) t []) cells) ∙ length_table f n width) each)
  where
    cells_over : (c : ℕ) → c < width → get_or (overlaid (get_or (table f n width) t []) cells) c [] ≡ g t c
    cells_over c l =
        get_or-map-range_with_len (λ k. unwrap_or (found cells k) (get_or (get_or (table f n width) t []) k [])) 0 (length (get_or (table f n width) t [])) c c [] (omega (arith, l, length_row f n width t here)) (omega arith)
        ∙ ap (unwrap_or (found cells c)) (at_table f n width t c here l)
        ∙ sym (same t c here l ∙ ap (λ (b : Bool). cond b (unwrap_or (found cells c) (f t c)) (f t c)) (eq-eqb t t refl))

    row_over : overlaid (get_or (table f n width) t []) cells ≡ row_of g width t
    row_over =
        fill_by_all (g t) (overlaid (get_or (table f n width) t []) cells) width []
        (length-map-range_with_len (λ k. unwrap_or (found cells k) (get_or (get_or (table f n width) t []) k [])) 0 (length (get_or (table f n width) t [])) ∙ length_row f n width t here)
        cells_over

    each : (u : ℕ) → u < n → get_or (set (table f n width) t (overlaid (get_or (table f n width) t []) cells)) u [] ≡ row_of g width u
    each u h = by_place (cases_eq u t)
      where
        by_place : (u ≡ t) ⊎ (u ≡ t → ⊥) → get_or (set (table f n width) t (overlaid (get_or (table f n width) t []) cells)) u [] ≡ row_of g width u
        by_place (inl e) =
            ap (λ (k : ℕ). get_or (set (table f n width) t (overlaid (get_or (table f n width) t []) cells)) k []) e
            ∙ get_or-set_same (table f n width) t _ [] (omega (arith, here, length_table f n width))
            ∙ row_over ∙ ap (row_of g width) (sym e)
        by_place (inr n1) =
            get_or-set_other (table f n width) t u _ [] n1
            ∙ row_table f n width u h
            ∙ row_same f g width u (λ c l. sym (same u c h l ∙ ap (λ (b : Bool). cond b (unwrap_or (found cells c) (f u c)) (f u c)) (ne_eqb u t n1)))

-- one row is another one
pub table_set : (f g : ℕ → ℕ → List ℕ) (n width t : ℕ) (row : List (List ℕ)) → t < n → length row ≡ width → ((c : ℕ) → c < width → get_or row c [] ≡ g t c) → ((u c : ℕ) → u < n → c < width → (u ≡ t → ⊥) → g u c ≡ f u c) → table g n width ≡ set (table f n width) t row
table_set f g n width t row here long cells_are others = sym (fill_by_all (row_of g width) (set (table f n width) t row) n [] (length-set (table f n width) t row ∙ length_table f n width) each)
  where
    each : (u : ℕ) → u < n → get_or (set (table f n width) t row) u [] ≡ row_of g width u
    each u h = by_place (cases_eq u t)
      where
        by_place : (u ≡ t) ⊎ (u ≡ t → ⊥) → get_or (set (table f n width) t row) u [] ≡ row_of g width u
        by_place (inl e) =
            ap (λ (k : ℕ). get_or (set (table f n width) t row) k []) e
            ∙ get_or-set_same (table f n width) t row [] (omega (arith, here, length_table f n width))
            ∙ fill_by_all (g t) row width [] long cells_are ∙ ap (row_of g width) (sym e)
        by_place (inr n1) =
            get_or-set_other (table f n width) t u row [] n1
            ∙ row_table f n width u h
            ∙ row_same f g width u (λ c l. sym (others u c h l n1))

pub table_replaced : (f g : ℕ → ℕ → List ℕ) (n width t : ℕ) (members : List ℕ) (words : ℕ → List ℕ) → t < n → ((u c : ℕ) → u < n → c < width → g u c ≡ cond (eqb u t && is_in members c) (words c) (f u c)) → table g n width ≡ set (table f n width) t (replaced (get_or (table f n width) t []) members words)
table_replaced f g n width t members words here same = table_set f g n width t (replaced (get_or (table f n width) t []) members words) here
    (length-map-range_with_len (λ k. cond (is_in members k) (words k) (get_or (get_or (table f n width) t []) k [])) 0 (length (get_or (table f n width) t [])) ∙ length_row f n width t here)
    (
    λ c l. get_or-map-range_with_len (λ k. cond (is_in members k) (words k) (get_or (get_or (table f n width) t []) k [])) 0 (length (get_or (table f n width) t [])) c c [] (omega (arith, l, length_row f n width t here)) (omega arith)
    ∙ ap (cond (is_in members c) (words c)) (at_table f n width t c here l)
    ∙ sym (same t c here l ∙ ap (λ (b : Bool). cond (b && is_in members c) (words c) (f t c)) (eq-eqb t t refl))
    )
    (λ u c h l n1. same u c h l ∙ ap (λ (b : Bool). cond (b && is_in members c) (words c) (f u c)) (ne_eqb u t n1))

pub table_filled : (f g : ℕ → ℕ → List ℕ) (n width t : ℕ) (words : ℕ → List ℕ) → t < n → ((u c : ℕ) → u < n → c < width → g u c ≡ cond (eqb u t) (words c) (f u c)) → table g n width ≡ set (table f n width) t (filled width words)
table_filled f g n width t words here same = table_set f g n width t (filled width words) here
    (length-map-range_with_len words 0 width)
    (
    λ c l. get_or-map-range_with_len words 0 width c c [] l (omega arith)
    ∙ sym (same t c here l ∙ ap (λ (b : Bool). cond b (words c) (f t c)) (eq-eqb t t refl))
    )
    (λ u c h l n1. same u c h l ∙ ap (λ (b : Bool). cond b (words c) (f u c)) (ne_eqb u t n1))

abbrev blanks : ℕ → List (List ℕ)
blanks k = replicate k []

pub table_grow : (f g : ℕ → ℕ → List ℕ) (n m width : ℕ) → ((u c : ℕ) → u < n → c < width → g u c ≡ f u c) → ((u c : ℕ) → n ≤ u → c < width → g u c ≡ []) → table g (n + m) width ≡ table f n width ++ replicate m (replicate width [])
table_grow f g n m width same blank = sym (fill_by_all (row_of g width) (table f n width ++ replicate m (replicate width [])) (n + m) [] long each)
  where
    long : length (table f n width ++ replicate m (replicate width [])) ≡ n + m
    long = length-append (table f n width) (replicate m (replicate width [])) ∙ omega (arith, length_table f n width, length-replicate m (blanks width))

    blank_row : (u : ℕ) → n ≤ u → replicate width [] ≡ row_of g width u
    blank_row u h = fill_by_all (g u) (replicate width []) width [] (length-replicate width _) (λ c l. get_or-replicate width c [] [] l ∙ sym (blank u c h l))

    each : (u : ℕ) → u < n + m → get_or (table f n width ++ replicate m (replicate width [])) u [] ≡ row_of g width u
    each u h = by_place (cases_lt u n)
      where
        by_place : (u < n) ⊎ (n ≤ u) → get_or (table f n width ++ replicate m (replicate width [])) u [] ≡ row_of g width u
        by_place (inl l) =
            get_or_append_left (table f n width) (replicate m (replicate width [])) [] u (omega (arith, l, length_table f n width))
            ∙ row_table f n width u l ∙ row_same f g width u (λ c k. sym (same u c l k))
        by_place (inr l) =
            get_or-append_right (table f n width) (replicate m (replicate width [])) n u [] (length_table f n width) l
            ∙ get_or-replicate m (u - n) (replicate width []) [] (omega (arith, h, l)) ∙ blank_row u l

pub table_cut : (f g : ℕ → ℕ → List ℕ) (n k width : ℕ) → ((u c : ℕ) → u < n → c < width → g u c ≡ f u c) → table g (min n k) width ≡ take n (table f k width)
table_cut f g n k width same =
    sym (fill_by_all (row_of g width) (take n (table f k width)) (min n k) [] (length-take n (table f k width) ∙ ap (min n) (length_table f k width)) each)
  where
    each : (u : ℕ) → u < min n k → get_or (take n (table f k width)) u [] ≡ row_of g width u
    each u h = get_or-take n (table f k width) u [] (omega arith) ∙ row_table f k width u (omega arith) ∙ row_same f g width u (λ c l. sym (same u c (omega arith) l))
