-- A row is put from a source.
use Rattle.std.proofs.Common.{◌≡◌, ℕ, ◌+◌, ◌<◌, ◌≤◌, ◌∙◌, ◌⊎◌, inl, inr, sym, ap, refl, subst, arith, Bool, true, false, cond, eqb, ◌&&◌, unwrap_or, Option, Some, None, List, [], ◌∷◌, ◌++◌, length}
use Rattle.std.proofs.Math.ListN.{set}
use Rattle.std.proofs.lemmas.Bool.{cases_eq, cases_lt, eq-eqb, ne_eqb, false≢true}
use Rattle.change_rows.specs.Cells.{Held, found, end_of}
use Rattle.change_rows.specs.Marks.{is_in}
use Rattle.change_rows.specs.Standing.{standing, standing_before}
use Rattle.change_rows.specs.Changes.{row_at, begins_at}
use Rattle.change_rows.specs.Laid.{IsOver, IsTold}
use Rattle.change_rows.proofs.Editing.{absent, present, pushed_same, pushed_other}
use Rattle.change_rows.proofs.Merging.{pushed_end}
use Rattle.change_rows.proofs.Putting.{stands_by, put_at, alike}

-- where nothing begins at a cell, what stood before it does
pub stands_on : (begins : ℕ → Option (List ℕ)) (t : ℕ) → begins t ≡ None → standing begins t ≡ standing_before begins t
stands_on begins t e = stands_by begins t ∙ ap (λ (o : Option (List ℕ)). unwrap_or o (standing_before begins t)) e

-- a cell that isn't in the row or the seam
pub left_out : (begins : ℕ → Option (List ℕ)) (t c : ℕ) (seam : List Held) (w : List ℕ) → end_of seam ≤ c → standing begins t ≡ w → unwrap_or (found seam c) w ≡ standing begins t
left_out begins t c seam w above e = absent seam c w (standing begins t) above (sym e)

pub not_in : (set : List ℕ) (d : ℕ) → is_in set d ≡ false → is_in set d ≡ true → ⊥
not_in set d e f = false≢true (sym e ∙ f)

-- members that aren't passed between two components stand before the first
pub member_low : (set : List ℕ) (p q : ℕ) → ((d : ℕ) → p ≤ d → d < q → is_in set d ≡ false) → (d : ℕ) → d < q → is_in set d ≡ true → d < p
member_low set p q none d h e = by_place (cases_lt d p)
  where
    by_place : (d < p) ⊎ (p ≤ d) → d < p
    by_place (inl l) = l
    by_place (inr l) = absurd (not_in set d (none d l h) e)

module _ (rows : List (List Held)) (seam : List Held) (at t : ℕ) (members : List ℕ) (words : ℕ → List ℕ) where
  pub told_start : (changed : List ℕ) → ((c : ℕ) → is_in changed c ≡ false) → IsTold rows seam at t members words 0 changed
  told_start changed none = record {
    others = λ c i. absurd (not_in changed c (none c) i);
    same = λ c h. absurd (omega (arith, h));
  }

  pub told_on : (p q : ℕ) (changed : List ℕ) → IsTold rows seam at t members words p changed → p ≤ q → ((d : ℕ) → p ≤ d → d < q → is_in members d ≡ false) → IsTold rows seam at t members words q changed
  told_on p q changed told h none = record {
    others = λ c i. (omega (arith, (told.others c i).0, h), (told.others c i).1, (told.others c i).2);
    same = λ c m i. told.same c (member_low members p q none c m i) i;
  }

  module _ (c : ℕ) (changed changed1 : List ℕ) (other : Bool) (told : IsTold rows seam at t members words c changed)
      (member : is_in members c ≡ true)
      (is_other : other ≡ true → standing (begins_at rows seam at c) t ≡ words c → ⊥)
      (is_same : other ≡ false → standing (begins_at rows seam at c) t ≡ words c)
      (here : other ≡ true → is_in changed1 c ≡ true)
      (none : other ≡ false → changed1 ≡ changed)
      (others : (d : ℕ) → (d ≡ c → ⊥) → is_in changed1 d ≡ is_in changed d) where
    not_before : is_in changed c ≡ true → ⊥
    not_before i = let h : c < c = (told.others c i).0 in omega (arith, h)

    other_here : (b : Bool) → other ≡ b → is_in changed1 c ≡ true → standing (begins_at rows seam at c) t ≡ words c → ⊥
    other_here true e i = is_other e
    other_here false e i = absurd (not_before (ap (λ (v : List ℕ). is_in v c) (sym (none e)) ∙ i))

    same_here : (b : Bool) → other ≡ b → is_in changed1 c ≡ false → standing (begins_at rows seam at c) t ≡ words c
    same_here true e i = absurd (not_in changed1 c i (here e))
    same_here false e i = is_same e

    tells_other : (d : ℕ) → (d ≡ c) ⊎ (d ≡ c → ⊥) → is_in changed1 d ≡ true → (d < c + 1) × (is_in members d ≡ true) × (standing (begins_at rows seam at d) t ≡ words d → ⊥)
    tells_other d (inl e) i = subst (λ (k : ℕ). (k < c + 1) × (is_in members k ≡ true) × (standing (begins_at rows seam at k) t ≡ words k → ⊥)) (sym e) (omega arith, member, other_here other refl (ap (is_in changed1) (sym e) ∙ i))
    tells_other d (inr n) i = let p = told.others d (sym (others d n) ∙ i) in (omega (arith, p.0), p.1, p.2)

    tells_same : (d : ℕ) → (d ≡ c) ⊎ (d ≡ c → ⊥) → d < c + 1 → is_in members d ≡ true → is_in changed1 d ≡ false → standing (begins_at rows seam at d) t ≡ words d
    tells_same d (inl e) h m i = subst (λ (k : ℕ). standing (begins_at rows seam at k) t ≡ words k) (sym e) (same_here other refl (ap (is_in changed1) (sym e) ∙ i))
    tells_same d (inr n) h m i = told.same d (omega (arith, h, n)) m (sym (others d n) ∙ i)

    pub told_more : IsTold rows seam at t members words (c + 1) changed1
    told_more = record {
      others = λ d i. tells_other d (cases_eq d c) i;
      same = λ d h m i. tells_same d (cases_eq d c) h m i;
    }

-- the same of a component that may be no member
module _ (rows : List (List Held)) (seam : List Held) (at t : ℕ) (members : List ℕ) (words : ℕ → List ℕ) (c : ℕ) (changed changed1 : List ℕ) (other : Bool) (told : IsTold rows seam at t members words c changed)
    (is_other : other ≡ true → (is_in members c ≡ true) × (standing (begins_at rows seam at c) t ≡ words c → ⊥))
    (is_same : other ≡ false → is_in members c ≡ true → standing (begins_at rows seam at c) t ≡ words c)
    (here : other ≡ true → is_in changed1 c ≡ true)
    (none : other ≡ false → changed1 ≡ changed)
    (others : (d : ℕ) → (d ≡ c → ⊥) → is_in changed1 d ≡ is_in changed d) where
  pub told_one : IsTold rows seam at t members words (c + 1) changed1
  told_one = by_member (is_in members c) refl other refl
    where
      by_member : (b : Bool) → is_in members c ≡ b → (o : Bool) → other ≡ o → IsTold rows seam at t members words (c + 1) changed1
      by_member true m o e = told_more rows seam at t members words c changed changed1 other told m (λ f. (is_other f).1) (λ f. is_same f m) here none others
      by_member false m true e = absurd (not_in members c m (is_other e).0)
      by_member false m false e = subst (λ (v : List ℕ). IsTold rows seam at t members words (c + 1) v) (sym (none e)) (told_on rows seam at t members words c (c + 1) changed told (omega arith) (λ d low high. ap (is_in members) (omega (arith, low, high)) ∙ m))

-- a cell more, unless its component holds its words anyway
module _ (row row1 : List Held) (c : ℕ) (w before : List ℕ) (same : Bool) (pushed : row1 ≡ cond same row (row ++ record { component = c; words = w } ∷ [])) (above : end_of row ≤ c) where
  pub unless_kept : (same ≡ true → before ≡ w) → unwrap_or (found row1 c) before ≡ w
  unless_kept alike = by_same same refl
    where
      by_same : (b : Bool) → same ≡ b → unwrap_or (found row1 c) before ≡ w
      by_same true e = rw (pushed ∙ ap (λ (x : Bool). cond x row (row ++ record { component = c; words = w } ∷ [])) e) (absent row c before w above (alike e))
      by_same false e = present row1 c before w w (pushed_same row row1 c w (pushed ∙ ap (λ (x : Bool). cond x row (row ++ record { component = c; words = w } ∷ [])) e) above) refl

  pub unless_others : (d : ℕ) → (d ≡ c → ⊥) → found row1 d ≡ found row d
  unless_others d n = by_same same refl
    where
      by_same : (b : Bool) → same ≡ b → found row1 d ≡ found row d
      by_same true e = ap (λ (v : List Held). found v d) (pushed ∙ ap (λ (x : Bool). cond x row (row ++ record { component = c; words = w } ∷ [])) e)
      by_same false e = pushed_other row row1 c w (pushed ∙ ap (λ (x : Bool). cond x row (row ++ record { component = c; words = w } ∷ [])) e) d n

  pub unless_end : end_of row1 ≤ c + 1
  unless_end = by_same same refl
    where
      by_same : (b : Bool) → same ≡ b → end_of row1 ≤ c + 1
      by_same true e = omega (arith, above, ap end_of (pushed ∙ ap (λ (x : Bool). cond x row (row ++ record { component = c; words = w } ∷ [])) e))
      by_same false e = omega (arith, above, pushed_end row row1 c w (pushed ∙ ap (λ (x : Bool). cond x row (row ++ record { component = c; words = w } ∷ [])) e))

-- one cell, or none
abbrev one : ℕ → Option (List ℕ) → List Held
one c None = []
one c (Some w) = record { component = c; words = w } ∷ []

found_one : (c : ℕ) (w : List ℕ) → found (one c (Some w)) c ≡ Some w
found_one c w = ap (λ (b : Bool). cond b (Some w) None) (eq-eqb c c refl)

cond_both : (b m : Bool) (x y : List ℕ) → m ≡ true → cond b x y ≡ cond (b && m) x y
cond_both true true x y e = refl
cond_both false true x y e = refl
cond_both b false x y e = absurd (false≢true e)

cond_none : (b m : Bool) (x y : List ℕ) → m ≡ false → cond b y y ≡ cond (b && m) x y
cond_none true false x y e = refl
cond_none false false x y e = refl
cond_none b true x y e = absurd (false≢true (sym e))

-- one component holds other words at row t; before that the seam of another row was settled
module _ (rows0 rows rows1 : List (List Held)) (seam0 seam seam1 seam2 row row1 : List Held) (at0 at t : ℕ)
    (same : (c u : ℕ) → begins_at rows seam at c u ≡ begins_at rows0 seam0 at0 c u)
    (len : length rows ≡ length rows0)
    (laid : rows1 ≡ set rows t row1)
    (is_row : row1 ≡ row)
    (is_seam : seam2 ≡ seam1)
    (here : t < length rows)
    (elsewhere : (at ≡ t → ⊥) → seam ≡ []) where
  pub stands_at : (c : ℕ) (v : List ℕ) → unwrap_or (found row c) (standing_before (begins_at rows seam at c) t) ≡ v → (t + 1 < length rows → found (row_at rows (t + 1)) c ≡ None → unwrap_or (found seam1 c) v ≡ standing (begins_at rows seam at c) t) → (u : ℕ) → u < length rows0 → standing (begins_at rows1 seam2 (t + 1) c) u ≡ cond (eqb u t) v (standing (begins_at rows0 seam0 at0 c) u)
  stands_at c v kept seam_kept u l =
      put_at rows0 rows rows1 seam0 seam seam1 seam2 row row1 (one c (Some v)) at0 at t c (same c) len laid is_row is_seam here elsewhere
      (λ w f. kept ∙ given w f)
      (λ f. absurd (some_none f))
      (λ h w f g. ap (unwrap_or (found seam1 c)) (sym (given w f)) ∙ seam_kept h g)
      (λ f. absurd (some_none f))
      u l
      ∙ ap (λ (o : Option (List ℕ)). cond (eqb u t) (unwrap_or o (standing (begins_at rows0 seam0 at0 c) u)) (standing (begins_at rows0 seam0 at0 c) u)) (found_one c v)
    where
      given : (w : List ℕ) → found (one c (Some v)) c ≡ Some w → v ≡ w
      given w f = let p : Some v ≡ Some w = sym (found_one c v) ∙ f in cc

      some_none : found (one c (Some v)) c ≡ None → ⊥
      some_none f = let p : Some v ≡ None = sym (found_one c v) ∙ f in cc

  -- the members of a set do
  module _ (width : ℕ) (members : List ℕ) (words : ℕ → List ℕ) (over : IsOver rows seam at t width members words row seam1) where
    pub stands_over : (c u : ℕ) → c < width → u < length rows0 → standing (begins_at rows1 seam2 (t + 1) c) u ≡ cond (eqb u t && is_in members c) (words c) (standing (begins_at rows0 seam0 at0 c) u)
    stands_over c u small l = by_member (is_in members c) refl
      where
        by_member : (b : Bool) → is_in members c ≡ b → standing (begins_at rows1 seam2 (t + 1) c) u ≡ cond (eqb u t && is_in members c) (words c) (standing (begins_at rows0 seam0 at0 c) u)
        by_member true e =
            stands_at c (words c) (over.kept c small e) (over.seam_kept c small e) u l
            ∙ cond_both (eqb u t) (is_in members c) (words c) (standing (begins_at rows0 seam0 at0 c) u) e
        by_member false e =
            put_at rows0 rows rows1 seam0 seam seam1 seam2 row row1 [] at0 at t c (same c) len laid is_row is_seam here elsewhere
            (λ w f. absurd (none_some w f))
            (λ _. over.others c (λ _ i. not_in members c e i))
            (λ h w f g. absurd (none_some w f))
            (λ _. over.seam_only c (λ _ i. not_in members c e i))
            u l
            ∙ cond_none (eqb u t) (is_in members c) (words c) (standing (begins_at rows0 seam0 at0 c) u) e
          where
            none_some : (w : List ℕ) → None ≡ Some w → ⊥
            none_some w f = cc

-- the members hold their words already
pub stands_still : (rows0 rows : List (List Held)) (seam0 seam : List Held) (at0 at t width : ℕ) (members : List ℕ) (words : ℕ → List ℕ) (changed : List ℕ) → ((c u : ℕ) → begins_at rows seam at c u ≡ begins_at rows0 seam0 at0 c u) → IsTold rows seam at t members words width changed → ((c : ℕ) → is_in changed c ≡ false) → (c u : ℕ) → c < width → standing (begins_at rows seam at c) u ≡ cond (eqb u t && is_in members c) (words c) (standing (begins_at rows0 seam0 at0 c) u)
stands_still rows0 rows seam0 seam at0 at t width members words changed same told none c u small =
    by_member (is_in members c) refl (cases_eq u t)
  where
    stood : (k : ℕ) → standing (begins_at rows seam at c) k ≡ standing (begins_at rows0 seam0 at0 c) k
    stood k = alike (begins_at rows0 seam0 at0 c) (begins_at rows seam at c) k (λ j _. same c j)

    by_member : (b : Bool) → is_in members c ≡ b → (u ≡ t) ⊎ (u ≡ t → ⊥) → standing (begins_at rows seam at c) u ≡ cond (eqb u t && is_in members c) (words c) (standing (begins_at rows0 seam0 at0 c) u)
    by_member true e (inl q) =
        ap (standing (begins_at rows seam at c)) q ∙ told.same c small e (none c)
        ∙ sym (ap (λ (b : Bool). cond (b && is_in members c) (words c) (standing (begins_at rows0 seam0 at0 c) u)) (eq-eqb u t q) ∙ ap (λ (b : Bool). cond (true && b) (words c) (standing (begins_at rows0 seam0 at0 c) u)) e)
    by_member true e (inr n) = stood u ∙ sym (ap (λ (b : Bool). cond (b && is_in members c) (words c) (standing (begins_at rows0 seam0 at0 c) u)) (ne_eqb u t n))
    by_member false e _ =
        stood u ∙ same_both (eqb u t) (standing (begins_at rows0 seam0 at0 c) u)
        ∙ cond_none (eqb u t) (is_in members c) (words c) (standing (begins_at rows0 seam0 at0 c) u) e
      where
        same_both : (b : Bool) (x : List ℕ) → x ≡ cond b x x
        same_both true x = refl
        same_both false x = refl

-- what is told of a table is told of one in which the same begins
pub told_same : (rows0 rows : List (List Held)) (seam0 seam : List Held) (at0 at t p : ℕ) (members : List ℕ) (words : ℕ → List ℕ) (changed : List ℕ) → ((c u : ℕ) → begins_at rows seam at c u ≡ begins_at rows0 seam0 at0 c u) → IsTold rows seam at t members words p changed → IsTold rows0 seam0 at0 t members words p changed
told_same rows0 rows seam0 seam at0 at t p members words changed same told = record {
  others = λ c i. ((told.others c i).0, (told.others c i).1, λ e. (told.others c i).2 (stood c ∙ e));
  same = λ c m i n. sym (stood c) ∙ told.same c m i n;
}
  where
    stood : (c : ℕ) → standing (begins_at rows seam at c) t ≡ standing (begins_at rows0 seam0 at0 c) t
    stood c = alike (begins_at rows0 seam0 at0 c) (begins_at rows seam at c) t (λ j _. same c j)
