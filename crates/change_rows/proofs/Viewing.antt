-- What a contract sees of rows of changes.
use Rattle.std.proofs.Common.{Bool, ◌&&◌, ltb, leb, zero, suc, ◌-◌, ◌++◌, ◌⊎◌, inl, inr, min, replicate, take, None, ◌≡◌, ℕ, ◌+◌, ◌<◌, ◌≤◌, ◌∙◌, ap, sym, arith, cond, eqb, unwrap_or, Option, List, [], length, get_or}
use Rattle.std.proofs.Math.ListN.{set}
use Rattle.std.proofs.lemmas.List.{append-nil}
use Rattle.std.proofs.lemmas.Bool.{cases_lt, lt-ltb, le-ltb, le-leb, lt-leb}
use Rattle.change_rows.specs.Marks.{is_in}
use Rattle.change_rows.specs.Cells.{Held, found}
use Rattle.change_rows.specs.Rows.{Table, words_at, overlaid, replaced, filled, repeated}
use Rattle.change_rows.specs.Standing.{standing, standing_before}
use Rattle.change_rows.specs.Changes.{begins_at, table, cells_in}
use Rattle.change_rows.proofs.Tables.{table_same, table_put, table_replaced, table_filled, table_grow, table_cut, length_table, at_table}
use Rattle.change_rows.proofs.Putting.{alike}

abbrev pub a_table : ℕ → List (List (List ℕ)) → Table
a_table width rows = record { width = width; rows = rows }

abbrev pub cells : List (List Held) → List Held → ℕ → ℕ → ℕ → List ℕ
cells rows seam at t c = standing (begins_at rows seam at c) t

-- a draft is put
pub view_put : (rows0 rows1 : List (List Held)) (seam0 seam1 draft : List Held) (at0 at1 width0 width1 t : ℕ) (v : Table) → a_table width0 (cells_in rows0 seam0 at0 width0) ≡ v → width1 ≡ width0 → length rows1 ≡ length rows0 → t < length rows0 → ((c u : ℕ) → u < length rows0 → standing (begins_at rows1 seam1 at1 c) u ≡ cond (eqb u t) (unwrap_or (found draft c) (standing (begins_at rows0 seam0 at0 c) u)) (standing (begins_at rows0 seam0 at0 c) u)) → a_table width1 (cells_in rows1 seam1 at1 width1) ≡ a_table v.width (set v.rows t (overlaid (get_or v.rows t []) draft))
view_put rows0 rows1 seam0 seam1 draft at0 at1 width0 width1 t v view w len here put =
    ap (λ (k : ℕ). a_table k (cells_in rows1 seam1 at1 k)) w
    ∙ ap (λ (n : ℕ). a_table width0 (table (cells rows1 seam1 at1) n width0)) len
    ∙ ap (a_table width0) (table_put (cells rows0 seam0 at0) (cells rows1 seam1 at1) (length rows0) width0 t draft here (λ u c h _. put c u h))
    ∙ ap (λ (x : Table). a_table x.width (set x.rows t (overlaid (get_or x.rows t []) draft))) view

-- the same begins everywhere
pub view_same : (rows0 rows1 : List (List Held)) (seam0 seam1 : List Held) (at0 at1 width0 width1 : ℕ) (v : Table) → a_table width0 (cells_in rows0 seam0 at0 width0) ≡ v → width1 ≡ width0 → length rows1 ≡ length rows0 → ((c u : ℕ) → begins_at rows1 seam1 at1 c u ≡ begins_at rows0 seam0 at0 c u) → a_table width1 (cells_in rows1 seam1 at1 width1) ≡ v
view_same rows0 rows1 seam0 seam1 at0 at1 width0 width1 v view w len same =
    ap (λ (k : ℕ). a_table k (cells_in rows1 seam1 at1 k)) w
    ∙ ap (λ (n : ℕ). a_table width0 (table (cells rows1 seam1 at1) n width0)) len
    ∙ ap (a_table width0) (table_same (cells rows1 seam1 at1) (cells rows0 seam0 at0) (length rows0) width0 (λ t c _ _. alike (begins_at rows0 seam0 at0 c) (begins_at rows1 seam1 at1 c) t (λ u _. same c u)))
    ∙ view

-- rows more, whose cells have no words
pub view_grow : (rows0 rows1 : List (List Held)) (seam0 seam1 : List Held) (at0 at1 width0 width1 m : ℕ) (v : Table) → a_table width0 (cells_in rows0 seam0 at0 width0) ≡ v → width1 ≡ width0 → length rows1 ≡ length rows0 + m → ((c u : ℕ) → u < length rows0 → begins_at rows1 seam1 at1 c u ≡ begins_at rows0 seam0 at0 c u) → ((c u : ℕ) → c < width0 → length rows0 ≤ u → standing (begins_at rows1 seam1 at1 c) u ≡ []) → a_table width1 (cells_in rows1 seam1 at1 width1) ≡ a_table v.width (v.rows ++ replicate m (replicate v.width []))
view_grow rows0 rows1 seam0 seam1 at0 at1 width0 width1 m v view w len same blank =
    ap (λ (k : ℕ). a_table k (cells_in rows1 seam1 at1 k)) w
    ∙ ap (λ (n : ℕ). a_table width0 (table (cells rows1 seam1 at1) n width0)) len
    ∙ ap (a_table width0) (table_grow (cells rows0 seam0 at0) (cells rows1 seam1 at1) (length rows0) m width0 (λ u c h _. alike (begins_at rows0 seam0 at0 c) (begins_at rows1 seam1 at1 c) u (λ k l. same c k (omega (arith, l, h)))) (λ u c h l. blank c u l h))
    ∙ ap (λ (x : Table). a_table x.width (x.rows ++ replicate m (replicate x.width []))) view

pub grow_none : (v : Table) (m : ℕ) → m ≡ 0 → v ≡ a_table v.width (v.rows ++ replicate m (replicate v.width []))
grow_none v m e = ap (a_table v.width) (sym (append-nil v.rows)) ∙ ap (λ (k : ℕ). a_table v.width (v.rows ++ replicate k (replicate v.width []))) (sym e)

-- the first n rows
pub view_cut : (rows0 rows1 : List (List Held)) (seam0 seam1 : List Held) (at0 at1 width0 width1 n : ℕ) (v : Table) → a_table width0 (cells_in rows0 seam0 at0 width0) ≡ v → width1 ≡ width0 → length rows1 ≡ min n (length rows0) → ((c u : ℕ) → u < n → begins_at rows1 seam1 at1 c u ≡ begins_at rows0 seam0 at0 c u) → a_table width1 (cells_in rows1 seam1 at1 width1) ≡ a_table v.width (take n v.rows)
view_cut rows0 rows1 seam0 seam1 at0 at1 width0 width1 n v view w len same =
    ap (λ (k : ℕ). a_table k (cells_in rows1 seam1 at1 k)) w
    ∙ ap (λ (k : ℕ). a_table width0 (table (cells rows1 seam1 at1) k width0)) len
    ∙ ap (a_table width0) (table_cut (cells rows0 seam0 at0) (cells rows1 seam1 at1) n (length rows0) width0 (λ u c h _. alike (begins_at rows0 seam0 at0 c) (begins_at rows1 seam1 at1 c) u (λ k l. same c k (omega (arith, l, h)))))
    ∙ ap (λ (x : Table). a_table x.width (take n x.rows)) view

-- where nothing begins
steady : (begins : ℕ → Option (List ℕ)) (t : ℕ) → 0 < t → begins t ≡ None → standing begins t ≡ standing begins (t - 1)
steady begins zero h e = absurd (omega arith)
steady begins (suc t) h e =
    let p : t ≡ suc t - 1 = omega arith in
    ap (λ (o : Option (List ℕ)). unwrap_or o (standing begins t)) e ∙ ap (standing begins) p

pub view_steady : (rows : List (List Held)) (seam : List Held) (at width t c : ℕ) (v : Table) → a_table width (cells_in rows seam at width) ≡ v → 0 < t → t < length rows → c < width → begins_at rows seam at c t ≡ None → words_at v.rows t c ≡ words_at v.rows (t - 1) c
view_steady rows seam at width t c v view some here small none =
    sym (ap (λ (x : Table). words_at x.rows t c) view)
    ∙ at_table (cells rows seam at) (length rows) width t c here small
    ∙ steady (begins_at rows seam at c) t some none
    ∙ sym (at_table (cells rows seam at) (length rows) width (t - 1) c (omega (arith, here)) small)
    ∙ ap (λ (x : Table). words_at x.rows (t - 1) c) view

pub steady_row : (t end r u n : ℕ) → t ≤ u → u < r → (t ≤ end → r ≤ end) → (end < t → r ≡ t) → end ≤ n → u < n
steady_row t end r u n low high to past few = by_place (cases_lt end t)
  where
    by_place : (end < t) ⊎ (t ≤ end) → u < n
    by_place (inl l) = absurd (omega (arith, past l, low, high))
    by_place (inr l) = omega (arith, to l, few, high)

from_before : (f t : ℕ) → 0 < f → ltb (f - 1) t ≡ leb f t
from_before f t h = by_order (cases_lt (f - 1) t)
  where
    by_order : (f - 1 < t) ⊎ (t ≤ f - 1) → ltb (f - 1) t ≡ leb f t
    by_order (inl l) = lt-ltb (f - 1) t l ∙ sym (le-leb f t (omega (arith, l, h)))
    by_order (inr l) = le-ltb (f - 1) t l ∙ sym (lt-leb f t (omega (arith, l, h)))

to_last : (t o : ℕ) → 0 < o → leb t (o - 1) ≡ ltb t o
to_last t o h = by_order (cases_lt t o)
  where
    by_order : (t < o) ⊎ (o ≤ t) → leb t (o - 1) ≡ ltb t o
    by_order (inl l) = le-leb t (o - 1) (omega (arith, l, h)) ∙ sym (lt-ltb t o l)
    by_order (inr l) = lt-leb t (o - 1) (omega (arith, l, h)) ∙ sym (le-ltb t o l)

-- some components hold over several rows what they hold before
pub view_repeat : (rows0 rows1 : List (List Held)) (seam0 seam1 : List Held) (at0 at1 width0 width1 from to : ℕ) (set : List ℕ) (v : Table) → a_table width0 (cells_in rows0 seam0 at0 width0) ≡ v → width1 ≡ width0 → length rows1 ≡ length rows0 → 0 < from → from < to → to ≤ length rows0 → ((c u : ℕ) → c < width0 → u < length rows0 → standing (begins_at rows1 seam1 at1 c) u ≡ cond (is_in set c && (ltb (from - 1) u && leb u (to - 1))) (standing (begins_at rows0 seam0 at0 c) (from - 1)) (standing (begins_at rows0 seam0 at0 c) u)) → a_table width1 (cells_in rows1 seam1 at1 width1) ≡ a_table v.width (repeated v.rows v.width from to set)
view_repeat rows0 rows1 seam0 seam1 at0 at1 width0 width1 from to set v view w len some order few run =
    ap (λ (k : ℕ). a_table k (cells_in rows1 seam1 at1 k)) w
    ∙ ap (λ (n : ℕ). a_table width0 (table (cells rows1 seam1 at1) n width0)) len
    ∙ ap (a_table width0) (table_same (cells rows1 seam1 at1) (λ (t c : ℕ). cond (is_in set c && (leb from t && ltb t to)) (words_at (cells_in rows0 seam0 at0 width0) (from - 1) c) (words_at (cells_in rows0 seam0 at0 width0) t c)) (length rows0) width0 each)
    ∙ ap (λ (n : ℕ). a_table width0 (table (λ (t c : ℕ). cond (is_in set c && (leb from t && ltb t to)) (words_at (cells_in rows0 seam0 at0 width0) (from - 1) c) (words_at (cells_in rows0 seam0 at0 width0) t c)) n width0)) (sym (length_table (cells rows0 seam0 at0) (length rows0) width0))
    ∙ ap (λ (x : Table). a_table x.width (repeated x.rows x.width from to set)) view
  where
    each : (t c : ℕ) → t < length rows0 → c < width0 → cells rows1 seam1 at1 t c ≡ cond (is_in set c && (leb from t && ltb t to)) (words_at (cells_in rows0 seam0 at0 width0) (from - 1) c) (words_at (cells_in rows0 seam0 at0 width0) t c)
    each t c h l =
        run c t l h
        ∙ ap (λ (b : Bool). cond (is_in set c && (b && leb t (to - 1))) (standing (begins_at rows0 seam0 at0 c) (from - 1)) (standing (begins_at rows0 seam0 at0 c) t)) (from_before from t some)
        ∙ ap (λ (b : Bool). cond (is_in set c && (leb from t && b)) (standing (begins_at rows0 seam0 at0 c) (from - 1)) (standing (begins_at rows0 seam0 at0 c) t)) (to_last t to (omega (arith, order)))
        ∙ ap (λ (x : List ℕ). cond (is_in set c && (leb from t && ltb t to)) x (standing (begins_at rows0 seam0 at0 c) t)) (sym (at_table (cells rows0 seam0 at0) (length rows0) width0 (from - 1) c (omega (arith, some, order, few)) l))
        ∙ ap (λ (x : List ℕ). cond (is_in set c && (leb from t && ltb t to)) (words_at (cells_in rows0 seam0 at0 width0) (from - 1) c) x) (sym (at_table (cells rows0 seam0 at0) (length rows0) width0 t c h l))

-- other words for the members of a set
pub view_replaced : (rows0 rows1 : List (List Held)) (seam0 seam1 : List Held) (at0 at1 width0 width1 t : ℕ) (members : List ℕ) (words : ℕ → List ℕ) (v : Table) → a_table width0 (cells_in rows0 seam0 at0 width0) ≡ v → width1 ≡ width0 → length rows1 ≡ length rows0 → t < length rows0 → ((c u : ℕ) → c < width0 → u < length rows0 → standing (begins_at rows1 seam1 at1 c) u ≡ cond (eqb u t && is_in members c) (words c) (standing (begins_at rows0 seam0 at0 c) u)) → a_table width1 (cells_in rows1 seam1 at1 width1) ≡ a_table v.width (set v.rows t (replaced (get_or v.rows t []) members words))
view_replaced rows0 rows1 seam0 seam1 at0 at1 width0 width1 t members words v view w len here put =
    ap (λ (k : ℕ). a_table k (cells_in rows1 seam1 at1 k)) w
    ∙ ap (λ (n : ℕ). a_table width0 (table (cells rows1 seam1 at1) n width0)) len
    ∙ ap (a_table width0) (table_replaced (cells rows0 seam0 at0) (cells rows1 seam1 at1) (length rows0) width0 t members words here (λ u c h l. put c u l h))
    ∙ ap (λ (x : Table). a_table x.width (set x.rows t (replaced (get_or x.rows t []) members words))) view

-- a row is filled
pub view_filled : (rows0 rows1 : List (List Held)) (seam0 seam1 : List Held) (at0 at1 width0 width1 t : ℕ) (words : ℕ → List ℕ) (v : Table) → a_table width0 (cells_in rows0 seam0 at0 width0) ≡ v → width1 ≡ width0 → length rows1 ≡ length rows0 → t < length rows0 → ((c u : ℕ) → c < width0 → u < length rows0 → standing (begins_at rows1 seam1 at1 c) u ≡ cond (eqb u t) (words c) (standing (begins_at rows0 seam0 at0 c) u)) → a_table width1 (cells_in rows1 seam1 at1 width1) ≡ a_table v.width (set v.rows t (filled v.width words))
view_filled rows0 rows1 seam0 seam1 at0 at1 width0 width1 t words v view w len here put =
    ap (λ (k : ℕ). a_table k (cells_in rows1 seam1 at1 k)) w
    ∙ ap (λ (n : ℕ). a_table width0 (table (cells rows1 seam1 at1) n width0)) len
    ∙ ap (a_table width0) (table_filled (cells rows0 seam0 at0) (cells rows1 seam1 at1) (length rows0) width0 t words here (λ u c h l. put c u l h))
    ∙ ap (λ (x : Table). a_table x.width (set x.rows t (filled x.width words))) view

before : (begins : ℕ → Option (List ℕ)) (k : ℕ) → 0 < k → standing begins (k - 1) ≡ standing_before begins k
before begins zero h = absurd (omega (arith, h))
before begins (suc k) h = let e : suc k - 1 ≡ k = omega arith in ap (standing begins) e

module _ (rows : List (List Held)) (seam : List Held) (at width t c : ℕ) (v : Table) (view : a_table width (cells_in rows seam at width) ≡ v) (here : t < length rows) (small : c < width) where
  pub view_words : words_at v.rows t c ≡ standing (begins_at rows seam at c) t
  view_words = sym (ap (λ (x : Table). words_at x.rows t c) view) ∙ at_table (cells rows seam at) (length rows) width t c here small

  pub view_before : 0 < t → words_at v.rows (t - 1) c ≡ standing_before (begins_at rows seam at c) t
  view_before some =
      sym (ap (λ (x : Table). words_at x.rows (t - 1) c) view)
      ∙ at_table (cells rows seam at) (length rows) width (t - 1) c (omega (arith, here)) small
      ∙ before (begins_at rows seam at c) t some
