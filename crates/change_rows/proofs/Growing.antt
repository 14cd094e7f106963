-- Rows more, and fewer.
use Rattle.std.proofs.Common.{◌≡◌, ℕ, zero, suc, ◌+◌, ◌-◌, ◌*◌, ◌/◌, ◌%◌, ◌<◌, ◌≤◌, ◌^◌, ◌∙◌, ◌⊎◌, inl, inr, sym, ap, refl, subst, arith, Bool, cond, eqb, is_some, Some, None, List, [], ◌∷◌, ◌++◌, length, take, replicate, get_or}
use Rattle.std.specs.Option.{option_or}
use Rattle.std.proofs.Math.ListN.{set}
use Rattle.std.proofs.lemmas.Bool.{cases_eq, cases_lt, ne_eqb}
use Rattle.std.proofs.lemmas.Nat.Bits.{bit_at-zero}
use Rattle.std.proofs.lemmas.List.{get_or-set_same, get_or-set_other, get_or_append_left, get_or-append_right, get_or_past, get_or-take, length-take, length-append, length-replicate}
use Rattle.change_rows.specs.Cells.{Held, found, end_of}
use Rattle.change_rows.specs.Marks.{is_one, is_set, is_marked}
use Rattle.change_rows.specs.Standing.{standing}
use Rattle.change_rows.specs.Changes.{row_at, begins_at, IsChanges}
use Rattle.change_rows.proofs.Standing.{carried, at_once, begins_row, begins_not}
use Rattle.change_rows.proofs.Editing.{changed, pushed_same, pushed_other}
use Rattle.change_rows.proofs.Merging.{pushed_end}

pub blank_more : (out out1 : List Held) (c : ℕ) → out1 ≡ out ++ record { component = c; words = [] } ∷ [] → end_of out ≤ c → ((d : ℕ) → d < c → found out d ≡ Some []) → (d : ℕ) → d < c + 1 → found out1 d ≡ Some []
blank_more out out1 c e above before d h = by_place (cases_eq d c)
  where
    by_place : (d ≡ c) ⊎ (d ≡ c → ⊥) → found out1 d ≡ Some []
    by_place (inl q) = ap (found out1) q ∙ pushed_same out out1 c [] e above
    by_place (inr n) = pushed_other out out1 c [] e d n ∙ before d (omega arith)

pub blank_end : (out out1 : List Held) (c : ℕ) → out1 ≡ out ++ record { component = c; words = [] } ∷ [] → end_of out ≤ c → end_of out1 ≤ c + 1
blank_end out out1 c e above = omega (arith, pushed_end out out1 c [] e, above)

-- rows in which nothing begins are like none
pub row_more : (rows : List (List Held)) (m u : ℕ) → row_at (rows ++ replicate m []) u ≡ row_at rows u
row_more rows m u = by_place (cases_lt u (length rows))
  where
    in_blank : (n i : ℕ) (z : List Held) → get_or (replicate n z) i z ≡ z
    in_blank zero i z = refl
    in_blank (suc n) zero z = refl
    in_blank (suc n) (suc i) z = in_blank n i z

    by_place : (u < length rows) ⊎ (length rows ≤ u) → row_at (rows ++ replicate m []) u ≡ row_at rows u
    by_place (inl h) = get_or_append_left rows (replicate m []) [] u h
    by_place (inr h) = get_or-append_right rows (replicate m []) (length rows) u [] refl h ∙ in_blank m (u - length rows) [] ∙ sym (get_or_past rows u [] h)

pub more_rows : (rows : List (List Held)) (m : ℕ) → length (rows ++ replicate m []) ≡ length rows + m
more_rows rows m = let blank : List Held = [] in length-append rows (replicate m blank) ∙ ap (λ (k : ℕ). length rows + k) (length-replicate m blank)

-- the marks have more room
pub lined : (width : ℕ) (rows : List (List Held)) (marks marks1 : List (List ℕ)) (seam : List Held) (at : ℕ) → IsChanges width rows marks seam at → length marks1 ≡ length marks → ((t c : ℕ) → is_marked marks1 t c ≡ is_marked marks t c) → ((w : ℕ) → length (get_or marks w []) ≤ length (get_or marks1 w [])) → IsChanges width rows marks1 seam at
lined width rows marks marks1 seam at s len same longer = record {
  wide = s.wide;
  seam_wide = s.seam_wide;
  seam_there = s.seam_there;
  room = omega (arith, s.room, len);
  tall = λ w h. omega (arith, s.tall w (omega (arith, h, len)), longer w);
  marked = λ t c h. same t c ∙ s.marked t c h;
  short = s.short;
}

-- there are more rows
module _ (width : ℕ) (rows : List (List Held)) (marks : List (List ℕ)) (seam : List Held) (at m : ℕ) (s : IsChanges width rows marks seam at) where
  pub blank_rows : ((w : ℕ) → w < length marks → length rows + m ≤ length (get_or marks w [])) → length rows + m < 2 ^ 32 → IsChanges width (rows ++ replicate m []) marks seam at
  blank_rows tall few = record {
    wide = λ t. subst (λ (r : List Held). end_of r ≤ width) (sym (row_more rows m t)) (s.wide t);
    seam_wide = s.seam_wide;
    seam_there = λ n. s.seam_there (λ h. n (omega (arith, h, more_rows rows m)));
    room = s.room;
    tall = λ w h. omega (arith, tall w h, more_rows rows m);
    marked = λ t c h. s.marked t c h ∙ sym (ap (λ (r : List Held). is_some (found r c)) (row_more rows m t));
    short = omega (arith, few, more_rows rows m);
  }

  -- of which the first ends what stood
  module _ (row : List Held) (rows1 : List (List Held)) (e : rows1 ≡ set (rows ++ replicate m []) (length rows) row) (some : 0 < m) where
    row_before : (u : ℕ) → (u ≡ length rows → ⊥) → row_at rows1 u ≡ row_at rows u
    row_before u n = ap (λ (r : List (List Held)). row_at r u) e ∙ get_or-set_other (rows ++ replicate m []) (length rows) u row [] n ∙ row_more rows m u

    row_here : row_at rows1 (length rows) ≡ row
    row_here = ap (λ (r : List (List Held)). row_at r (length rows)) e ∙ get_or-set_same (rows ++ replicate m []) (length rows) row [] (omega (arith, some, more_rows rows m))

    pub grown_same : (c u : ℕ) → u < length rows → begins_at rows1 seam at c u ≡ begins_at rows seam at c u
    grown_same c u h = ap (λ (r : List Held). option_or (found r c) (cond (eqb u at) (found seam c) None)) (row_before u (λ q. absurd (omega (arith, q, h))))

    pub grown_blank : ((c : ℕ) → c < width → found row c ≡ Some []) → (c u : ℕ) → c < width → length rows ≤ u → standing (begins_at rows1 seam at c) u ≡ []
    grown_blank blank c u small h =
        carried (begins_at rows1 seam at c) (length rows) u h none
        ∙ at_once (begins_at rows1 seam at c) (length rows) [] (begins_row rows1 seam at c (length rows) [] (ap (λ (r : List Held). found r c) row_here ∙ blank c small))
      where
        none : (k : ℕ) → length rows < k → k ≤ u → begins_at rows1 seam at c k ≡ None
        none k low high =
            begins_not rows1 seam at c k
            (ap (λ (r : List Held). found r c) (row_before k (λ q. absurd (omega (arith, q, low))) ∙ get_or_past rows k [] (omega (arith, low))))
            (λ q. ap (λ (v : List Held). found v c) (s.seam_there (λ l. absurd (omega (arith, q, l, low)))))

-- there are fewer rows
pub row_taken : (rows : List (List Held)) (n u : ℕ) → u < n → row_at (take n rows) u ≡ row_at rows u
row_taken rows n u h = get_or-take n rows u [] h

pub row_gone : (rows : List (List Held)) (n u : ℕ) → n ≤ u → row_at (take n rows) u ≡ []
row_gone rows n u h = get_or_past (take n rows) u [] (omega (arith, length-take n rows))

module _ (width n : ℕ) (rows : List (List Held)) (marks marks1 : List (List ℕ)) (seam seam1 : List Held) (at : ℕ) (s : IsChanges width rows marks seam at) (len : length marks1 ≡ length marks) (lines : (w : ℕ) → get_or marks1 w [] ≡ take n (get_or marks w [])) (kept : at < n → seam1 ≡ seam) (gone : n ≤ at → seam1 ≡ []) where
  seam_cut : (at < n) ⊎ (n ≤ at) → end_of seam1 ≤ width
  seam_cut (inl h) = subst (λ (v : List Held). end_of v ≤ width) (sym (kept h)) s.seam_wide
  seam_cut (inr h) = omega (arith, ap end_of (gone h))

  seam_none : (at < n) ⊎ (n ≤ at) → (at < length (take n rows) → ⊥) → seam1 ≡ []
  seam_none (inl h) none = kept h ∙ s.seam_there (λ l. none (omega (arith, h, l, length-take n rows)))
  seam_none (inr h) none = gone h

  row_cut : (u : ℕ) → (u < n) ⊎ (n ≤ u) → end_of (row_at (take n rows) u) ≤ width
  row_cut u (inl h) = subst (λ (r : List Held). end_of r ≤ width) (sym (row_taken rows n u h)) (s.wide u)
  row_cut u (inr h) = omega (arith, ap end_of (row_gone rows n u h))

  mark_cut : (u c : ℕ) → c < width → (u < n) ⊎ (n ≤ u) → is_marked marks1 u c ≡ is_some (found (row_at (take n rows) u) c)
  mark_cut u c small (inl h) =
      ap (λ (l : List ℕ). is_set l u (c % 64)) (lines (c / 64))
      ∙ ap (λ (w : ℕ). is_one w (c % 64)) (get_or-take n (get_or marks (c / 64) []) u 0 h)
      ∙ s.marked u c small
      ∙ sym (ap (λ (r : List Held). is_some (found r c)) (row_taken rows n u h))
  mark_cut u c small (inr h) =
      ap (λ (l : List ℕ). is_set l u (c % 64)) (lines (c / 64))
      ∙ ap (λ (w : ℕ). is_one w (c % 64)) (get_or_past (take n (get_or marks (c / 64) [])) u 0 (omega (arith, h, length-take n (get_or marks (c / 64) []))))
      ∙ ap (λ (b : ℕ). eqb b 1) (bit_at-zero (c % 64))
      ∙ sym (ap (λ (r : List Held). is_some (found r c)) (row_gone rows n u h))

  pub cut_changes : IsChanges width (take n rows) marks1 seam1 at
  cut_changes = record {
    wide = λ u. row_cut u (cases_lt u n);
    seam_wide = seam_cut (cases_lt at n);
    seam_there = seam_none (cases_lt at n);
    room = omega (arith, s.room, len);
    tall = λ w h. omega (arith, s.tall w (omega (arith, h, len)), ap length (lines w), length-take n (get_or marks w []), length-take n rows);
    marked = λ u c small. mark_cut u c small (cases_lt u n);
    short = omega (arith, s.short, length-take n rows);
  }

  pub cut_same : (c u : ℕ) → u < n → begins_at (take n rows) seam1 at c u ≡ begins_at rows seam at c u
  cut_same c u h = ap (λ (r : List Held). option_or (found r c) (cond (eqb u at) (found seam1 c) None)) (row_taken rows n u h) ∙ by_place (cases_lt at n)
    where
      by_place : (at < n) ⊎ (n ≤ at) → begins_at rows seam1 at c u ≡ begins_at rows seam at c u
      by_place (inl l) = ap (λ (v : List Held). begins_at rows v at c u) (kept l)
      by_place (inr l) =
          let ne : u ≡ at → ⊥ = λ q. absurd (omega (arith, q, h, l)) in
          ap (λ (b : Bool). option_or (found (row_at rows u) c) (cond b (found seam1 c) None)) (ne_eqb u at ne)
          ∙ sym (ap (λ (b : Bool). option_or (found (row_at rows u) c) (cond b (found seam c) None)) (ne_eqb u at ne))

pub rows_are : (rows rows1 rows2 rows3 : List (List Held)) (row : List Held) (m k : ℕ) → rows3 ≡ set rows2 k row → rows2 ≡ rows1 ++ replicate m [] → rows1 ≡ rows → k ≡ length rows → rows3 ≡ set (rows ++ replicate m []) (length rows) row
rows_are rows rows1 rows2 rows3 row m k e f g h =
    e ∙ ap (λ (r : List (List Held)). set r k row) (f ∙ ap (λ (r : List (List Held)). r ++ replicate m []) g) ∙ ap (λ (j : ℕ). set (rows ++ replicate m []) j row) h

pub grown_changes : (width : ℕ) (rows rows3 : List (List Held)) (marks marks1 marks2 : List (List ℕ)) (seam row : List Held) (at m n : ℕ) → IsChanges width rows marks seam at → length marks1 ≡ length marks → ((t c : ℕ) → is_marked marks1 t c ≡ is_marked marks t c) → ((w : ℕ) → length (get_or marks w []) ≤ length (get_or marks1 w [])) → ((w : ℕ) → w < length marks → n + m ≤ length (get_or marks1 w [])) → n ≡ length rows → 0 < m → length rows + m < 2 ^ 32 → end_of row ≤ width → length marks2 ≡ length marks1 → ((w : ℕ) → length (get_or marks2 w []) ≡ length (get_or marks1 w [])) → ((u c : ℕ) → c < 64 * length marks1 → is_marked marks2 u c ≡ cond (eqb u n) (is_some (found row c)) (is_marked marks1 u c)) → rows3 ≡ set (rows ++ replicate m []) (length rows) row → IsChanges width rows3 marks2 seam at
grown_changes width rows rows3 marks marks1 marks2 seam row at m n s len same longer ok here some few wide len2 tall2 marked e =
    let l : IsChanges width rows marks1 seam at = lined width rows marks marks1 seam at s len same longer in
    let b : IsChanges width (rows ++ replicate m []) marks1 seam at = blank_rows width rows marks1 seam at m l (λ w h. omega (arith, ok w (omega (arith, h, len)), here)) few in
    subst (λ (r : List (List Held)). IsChanges width r marks2 seam at) (ap (λ (k : ℕ). set (rows ++ replicate m []) k row) here ∙ sym e)
    (changed width (rows ++ replicate m []) marks1 marks2 seam seam at at n row b (omega (arith, here, some, more_rows rows m)) wide len2 tall2 marked b.seam_wide b.seam_there)
