-- A put, sorted by kinds of cells.
use Rattle.std.proofs.Common.{◌≡◌, ℕ, suc, ◌+◌, ◌*◌, ◌/◌, ◌<◌, ◌≤◌, ◌∙◌, ◌⊎◌, inl, inr, sym, ap, refl, subst, arith, Bool, true, false, cond, eqb, ◌&&◌, ◌||◌, not, is_some, unwrap_or, Option, Some, None, List, [], ◌∷◌, length, get_or}
use Rattle.std.specs.Option.{option_or}
use Rattle.std.proofs.lemmas.Bool.{cases_lt, eq-eqb, ne_eqb, false≢true}
use Rattle.change_rows.specs.Cells.{Held, found, end_of}
use Rattle.change_rows.specs.Marks.{is_in}
use Rattle.change_rows.specs.Standing.{standing, standing_before}
use Rattle.change_rows.specs.Changes.{row_at, begins_at}
use Rattle.change_rows.specs.Laid.{IsOver, IsTold}
use Rattle.change_rows.specs.Kinds.{IsNoted, AreMoved, IsRowLaid, IsSeamLaid, GoOn}
use Rattle.change_rows.specs.declared.notes.Notes.{Notes}
use Rattle.change_rows.proofs.Finding.{found_past}
use Rattle.change_rows.proofs.Members.{in_there}
use Rattle.change_rows.proofs.Standing.{none_is, begins_not, carried}
use Rattle.change_rows.proofs.Sourcing.{not_in, stands_on}

no_cells : (cells : List Held) → ((c : ℕ) → found cells c ≡ None) → cells ≡ []
no_cells [] none = refl
no_cells (cell ∷ rest) none = absurd (some_none (sym (ap (λ (b : Bool). cond b (Some cell.words) (found rest cell.component)) (eq-eqb cell.component cell.component refl)) ∙ none cell.component))
  where
    some_none : Some cell.words ≡ None → ⊥
    some_none e = cc

-- what begins at the row of the seam
begun_here : (rows : List (List Held)) (seam : List Held) (at c : ℕ) → begins_at rows seam at c at ≡ option_or (found (row_at rows at) c) (found seam c)
begun_here rows seam at c = ap (λ (b : Bool). option_or (found (row_at rows at) c) (cond b (found seam c) None)) (eq-eqb at at refl)

both : (a b : Bool) → (a && b) ≡ true → (a ≡ true) × (b ≡ true)
both true true e = (refl, refl)
both true false e = absurd (false≢true e)
both false b e = absurd (false≢true e)

either : (a b : Bool) → (a || b) ≡ true → (a ≡ true) ⊎ (b ≡ true)
either true b e = inl refl
either false b e = inr e

neither : (a b : Bool) → (a || b) ≡ false → (a ≡ false) × (b ≡ false)
neither true b e = absurd (false≢true (sym e))
neither false b e = (refl, e)

is_not : (a : Bool) → not a ≡ true → a ≡ false
is_not true e = absurd (false≢true e)
is_not false e = refl

module _ (rows : List (List Held)) (seam : List Held) (at width : ℕ) (members own under moved asked laid : List ℕ) (rests : ℕ → Bool) (words : ℕ → List ℕ)
    (is_own : (c : ℕ) → c < width → is_in own c ≡ is_some (found (row_at rows at) c))
    (is_under : (c : ℕ) → c < width → is_in under c ≡ is_some (found seam c))
    (sorted : AreMoved rests width members moved)
    (is_asked : (c : ℕ) → c < width → is_in asked c ≡ (((is_in own c || is_in under c) && is_in members c) && not (is_in moved c)))
    (is_laid : (c : ℕ) → c < width → is_in laid c ≡ (((is_in own c || is_in under c) && not (is_in members c)) || is_in moved c))
    (still : (c : ℕ) → c < width → is_in members c ≡ true → rests c ≡ true → words c ≡ standing_before (begins_at rows seam at c) at) where
  pub asked_member : (c : ℕ) → c < width → is_in asked c ≡ true → (is_in members c ≡ true) × (is_in moved c ≡ false)
  asked_member c h e =
      let p = both ((is_in own c || is_in under c) && is_in members c) (not (is_in moved c)) (sym (is_asked c h) ∙ e) in
      ((both (is_in own c || is_in under c) (is_in members c) p.0).1, is_not (is_in moved c) p.1)

  rested : (c : ℕ) → c < width → is_in members c ≡ true → is_in moved c ≡ false → words c ≡ standing_before (begins_at rows seam at c) at
  rested c h m e = still c h m (sorted.still c h m e)

  pub asked_still : (c : ℕ) → c < width → is_in asked c ≡ true → words c ≡ standing_before (begins_at rows seam at c) at
  asked_still c h e = let p = asked_member c h e in rested c h p.0 p.1

  pub moved_laid : (c : ℕ) → c < width → is_in moved c ≡ true → is_in laid c ≡ true
  moved_laid c h e = is_laid c h ∙ ap (λ (b : Bool). ((is_in own c || is_in under c) && not (is_in members c)) || b) e ∙ or_true ((is_in own c || is_in under c) && not (is_in members c))
    where
      or_true : (b : Bool) → (b || true) ≡ true
      or_true true = refl
      or_true false = refl

  not_own : (c : ℕ) → c < width → (is_in own c || is_in under c) ≡ false → (found (row_at rows at) c ≡ None) × (found seam c ≡ None)
  not_own c h e =
      let p = neither (is_in own c) (is_in under c) e in
      (none_is (found (row_at rows at) c) (sym (is_own c h) ∙ p.0), none_is (found seam c) (sym (is_under c h) ∙ p.1))

  not_begun : (c : ℕ) → c < width → (is_in own c || is_in under c) ≡ false → begins_at rows seam at c at ≡ None
  not_begun c h e = let p = not_own c h e in begins_not rows seam at c at p.0 (λ _. p.1)

  not_laid : (c : ℕ) → c < width → is_in members c ≡ true → is_in moved c ≡ false → is_in laid c ≡ false
  not_laid c h m e =
      is_laid c h
      ∙ ap (λ (b : Bool). ((is_in own c || is_in under c) && not b) || is_in moved c) m
      ∙ ap (λ (b : Bool). ((is_in own c || is_in under c) && false) || b) e ∙ none (is_in own c || is_in under c)
    where
      none : (b : Bool) → ((b && false) || false) ≡ false
      none true = refl
      none false = refl

  -- which members hold other words
  module _ (apart asked2 other1 other2 changed : List ℕ)
      (len : length changed ≡ length members)
      (is_asked2 : (c : ℕ) → c < width → is_in asked2 c ≡ (is_in asked c && not (is_in apart c)))
      (is_changed : (c : ℕ) → c / 64 < length members → is_in changed c ≡ (((is_in apart c && is_in asked c) || is_in other1 c) || is_in other2 c))
      (is_apart : (c : ℕ) → is_in apart c ≡ true → (c < width) × (standing (begins_at rows seam at c) at ≡ standing_before (begins_at rows seam at c) at → ⊥))
      (told1 : IsTold rows seam at at asked2 words width other1)
      (told2 : IsTold rows seam at at moved words width other2) where
    asked_first : (c : ℕ) → c < width → is_in asked2 c ≡ true → is_in asked c ≡ true
    asked_first c h e = (both (is_in asked c) (not (is_in apart c)) (sym (is_asked2 c h) ∙ e)).0

    by_kind : (c : ℕ) → (is_in apart c && is_in asked c) ≡ true ⊎ ((is_in other1 c ≡ true) ⊎ (is_in other2 c ≡ true)) → (c < width) × (is_in members c ≡ true) × (standing (begins_at rows seam at c) at ≡ words c → ⊥)
    by_kind c (inl e) =
        let p = both (is_in apart c) (is_in asked c) e in
        let a = is_apart c p.0 in
        (a.0, (asked_member c a.0 p.1).0, λ q. a.1 (q ∙ asked_still c a.0 p.1))
    by_kind c (inr (inl e)) =
        let o = told1.others c e in
        (o.0, (asked_member c o.0 (asked_first c o.0 o.1)).0, o.2)
    by_kind c (inr (inr e)) =
        let o = told2.others c e in
        (o.0, sorted.among c o.0 o.1, o.2)

    kinds : (c : ℕ) → is_in changed c ≡ true → (is_in apart c && is_in asked c) ≡ true ⊎ ((is_in other1 c ≡ true) ⊎ (is_in other2 c ≡ true))
    kinds c i = by_two (either ((is_in apart c && is_in asked c) || is_in other1 c) (is_in other2 c) (sym (is_changed c (omega (arith, in_there changed c i, len))) ∙ i))
      where
        by_one : (is_in apart c && is_in asked c) ≡ true ⊎ (is_in other1 c ≡ true) → (is_in apart c && is_in asked c) ≡ true ⊎ ((is_in other1 c ≡ true) ⊎ (is_in other2 c ≡ true))
        by_one (inl e) = inl e
        by_one (inr e) = inr (inl e)

        by_two : (((is_in apart c && is_in asked c) || is_in other1 c) ≡ true) ⊎ (is_in other2 c ≡ true) → (is_in apart c && is_in asked c) ≡ true ⊎ ((is_in other1 c ≡ true) ⊎ (is_in other2 c ≡ true))
        by_two (inl e) = by_one (either (is_in apart c && is_in asked c) (is_in other1 c) e)
        by_two (inr e) = inr (inr e)

    same_asked : (c : ℕ) → c < width → is_in asked c ≡ true → (is_in apart c && is_in asked c) ≡ false → is_in other1 c ≡ false → standing (begins_at rows seam at c) at ≡ words c
    same_asked c h a n o = by_apart (is_in apart c) refl
      where
        by_apart : (b : Bool) → is_in apart c ≡ b → standing (begins_at rows seam at c) at ≡ words c
        by_apart true e = absurd (false≢true (sym n ∙ ap (λ (b : Bool). b && is_in asked c) e ∙ a))
        by_apart false e = told1.same c h (is_asked2 c h ∙ ap (λ (b : Bool). b && not (is_in apart c)) a ∙ ap not e) o

    same_all : (c : ℕ) → c < width → is_in members c ≡ true → is_in changed c ≡ false → standing (begins_at rows seam at c) at ≡ words c
    same_all c h m i = by_moved (is_in moved c) refl
      where
        three : (((is_in apart c && is_in asked c) || is_in other1 c) ≡ false) × (is_in other2 c ≡ false)
        three = neither ((is_in apart c && is_in asked c) || is_in other1 c) (is_in other2 c) (sym (is_changed c (in_there members c m)) ∙ i)

        two : ((is_in apart c && is_in asked c) ≡ false) × (is_in other1 c ≡ false)
        two = neither (is_in apart c && is_in asked c) (is_in other1 c) three.0

        by_begun : is_in moved c ≡ false → (b : Bool) → (is_in own c || is_in under c) ≡ b → standing (begins_at rows seam at c) at ≡ words c
        by_begun e true f =
            same_asked c h (is_asked c h ∙ ap (λ (b : Bool). (b && is_in members c) && not (is_in moved c)) f ∙ ap (λ (b : Bool). b && not (is_in moved c)) m ∙ ap not e) two.0 two.1
        by_begun e false f = stands_on (begins_at rows seam at c) at (not_begun c h f) ∙ sym (rested c h m e)

        by_moved : (b : Bool) → is_in moved c ≡ b → standing (begins_at rows seam at c) at ≡ words c
        by_moved true e = told2.same c h e three.1
        by_moved false e = by_begun e (is_in own c || is_in under c) refl

    pub told_all : IsTold rows seam at at members words width changed
    told_all = record {
      others = λ c i. by_kind c (kinds c i);
      same = same_all;
    }

  -- the row and the seam behind it
  pub over_all : (changed kept : List ℕ) (row seam1 : List Held) → end_of (row_at rows at) ≤ width → end_of seam ≤ width → IsTold rows seam at at members words width changed → IsRowLaid rows seam at moved laid words width row → GoOn rows at width changed kept → IsSeamLaid rows seam at kept width seam1 → IsOver rows seam at at width members words row seam1
  over_all changed kept row seam1 own_wide seam_wide told row_laid go seam_laid = record {
    kept = λ c h m. by_moved c h m (is_in moved c) refl;
    others = λ c n. by_place c n (cases_lt c width);
    end = row_laid.end;
    seam_kept = λ c h m l e. by_changed c h m l e (is_in changed c) refl;
    seam_only = λ c n. seam_laid.none c (λ h i. n h (told.others c (go.among c i).1).1);
    seam_end = seam_laid.end;
    seam_past = λ n. no_cells seam1 (λ c. seam_laid.none c (λ _ i. n (go.among c i).2));
  }
    where
      by_moved : (c : ℕ) → c < width → is_in members c ≡ true → (b : Bool) → is_in moved c ≡ b → unwrap_or (found row c) (standing_before (begins_at rows seam at c) at) ≡ words c
      by_moved c h m true e = row_laid.put c h (moved_laid c h e) e
      by_moved c h m false e =
          ap (λ (o : Option (List ℕ)). unwrap_or o (standing_before (begins_at rows seam at c) at)) (row_laid.none c (λ _ l. not_in laid c (not_laid c h m e) l))
          ∙ sym (rested c h m e)

      by_begun : (c : ℕ) → c < width → is_in members c ≡ false → (b : Bool) → (is_in own c || is_in under c) ≡ b → found row c ≡ option_or (found (row_at rows at) c) (found seam c)
      by_begun c h m true f =
          row_laid.begun c h (is_laid c h ∙ ap (λ (b : Bool). (b && not (is_in members c)) || is_in moved c) f ∙ ap (λ (b : Bool). not b || is_in moved c) m) (stays (is_in moved c) refl)
          ∙ begun_here rows seam at c
        where
          stays : (b : Bool) → is_in moved c ≡ b → is_in moved c ≡ false
          stays true e = absurd (not_in members c m (sorted.among c h e))
          stays false e = e
      by_begun c h m false f =
          row_laid.none c (λ _ l. by_moved_too (is_in moved c) refl l)
          ∙ sym (ap (λ (o : Option (List ℕ)). option_or o (found seam c)) (not_own c h f).0 ∙ (not_own c h f).1)
        where
          by_moved_too : (b : Bool) → is_in moved c ≡ b → is_in laid c ≡ true → ⊥
          by_moved_too true e l = not_in members c m (sorted.among c h e)
          by_moved_too false e l = false≢true (sym (ap (λ (b : Bool). (b && not (is_in members c)) || is_in moved c) f ∙ e) ∙ sym (is_laid c h) ∙ l)

      by_place : (c : ℕ) → (c < width → is_in members c ≡ true → ⊥) → (c < width) ⊎ (width ≤ c) → found row c ≡ option_or (found (row_at rows at) c) (found seam c)
      by_place c n (inl h) = by_begun c h (outside (is_in members c) refl) (is_in own c || is_in under c) refl
        where
          outside : (b : Bool) → is_in members c ≡ b → is_in members c ≡ false
          outside true e = absurd (n h e)
          outside false e = e
      by_place c n (inr h) =
          row_laid.none c (λ l _. absurd (omega (arith, l, h)))
          ∙ sym (ap (λ (o : Option (List ℕ)). option_or o (found seam c)) (found_past (row_at rows at) c (omega (arith, own_wide, h))) ∙ found_past seam c (omega (arith, seam_wide, h)))

      by_changed : (c : ℕ) → c < width → is_in members c ≡ true → at + 1 < length rows → found (row_at rows (at + 1)) c ≡ None → (b : Bool) → is_in changed c ≡ b → unwrap_or (found seam1 c) (words c) ≡ standing (begins_at rows seam at c) at
      by_changed c h m l e true i = ap (λ (o : Option (List ℕ)). unwrap_or o (words c)) (seam_laid.put c h (go.all c h i l e))
      by_changed c h m l e false i =
          ap (λ (o : Option (List ℕ)). unwrap_or o (words c)) (seam_laid.none c (λ _ k. not_in changed c i (go.among c k).1))
          ∙ sym (told.same c h m i)

-- first words are kept of those alone that are still
pub noted_less : (rows : List (List Held)) (seam : List Held) (at width : ℕ) (moved : List ℕ) (n n1 : Notes) → IsNoted rows seam at width n → width ≤ 64 * length n.known.items → n1.apart.items ≡ n.apart.items → ((c : ℕ) → c / 64 < length n.known.items → is_in n1.known.items c ≡ (is_in n.known.items c && not (is_in moved c))) → ((c : ℕ) → is_in moved c ≡ false → get_or n1.heads.items c 0 ≡ get_or n.heads.items c 0) → IsNoted rows seam at width n1
noted_less rows seam at width moved n n1 noted room apart known heads = record {
  apart = λ c h. noted.apart c (ap (λ (v : List ℕ). is_in v c) (sym apart) ∙ h);
  known = λ c l h.
      let p = both (is_in n.known.items c) (not (is_in moved c)) (sym (known c (omega (arith, l, room))) ∙ h) in
      heads c (is_not (is_in moved c) p.1) ∙ noted.known c l p.0;
}

-- what is known of the row behind the one that was put
module _ (rows rows1 : List (List Held)) (seam seam1 : List Held) (at width : ℕ) (members moved changed kept : List ℕ) (rests : ℕ → Bool) (words : ℕ → List ℕ) (n n1 : Notes)
    (here : at < length rows)
    (put : (c u : ℕ) → c < width → u < length rows → standing (begins_at rows1 seam1 (at + 1) c) u ≡ cond (eqb u at && is_in members c) (words c) (standing (begins_at rows seam at c) u))
    (sorted : AreMoved rests width members moved)
    (still : (c : ℕ) → c < width → is_in members c ≡ true → rests c ≡ true → words c ≡ standing_before (begins_at rows seam at c) at)
    (told : IsTold rows seam at at members words width changed)
    (go : GoOn rows at width changed kept)
    (noted : IsNoted rows seam at width n)
    (firsts : (c : ℕ) → c < width → is_in moved c ≡ true → get_or n.heads.items c 0 ≡ get_or (words c) 0 0)
    (room : width ≤ 64 * length n.known.items)
    (is_apart : n1.apart.items ≡ kept)
    (is_heads : n1.heads.items ≡ n.heads.items)
    (is_known : (c : ℕ) → c / 64 < length n.known.items → is_in n1.known.items c ≡ ((is_in n.known.items c && is_in members c) || is_in moved c)) where
  now_at : (c : ℕ) → c < width → is_in members c ≡ true → standing (begins_at rows1 seam1 (at + 1) c) at ≡ words c
  now_at c h m =
      put c at h here
      ∙ ap (λ (b : Bool). cond (b && is_in members c) (words c) (standing (begins_at rows seam at c) at)) (eq-eqb at at refl)
      ∙ ap (λ (b : Bool). cond b (words c) (standing (begins_at rows seam at c) at)) m

  before_next : (c : ℕ) → standing_before (begins_at rows1 seam1 (at + 1) c) (at + 1) ≡ standing (begins_at rows1 seam1 (at + 1) c) at
  before_next c = let e : at + 1 ≡ suc at = omega arith in ap (standing_before (begins_at rows1 seam1 (at + 1) c)) e

  now_next : (c : ℕ) → c < width → at + 1 < length rows → found (row_at rows (at + 1)) c ≡ None → standing (begins_at rows1 seam1 (at + 1) c) (at + 1) ≡ standing (begins_at rows seam at c) at
  now_next c h l e =
      let apart : at + 1 ≡ at → ⊥ = λ q. absurd (omega (arith, q)) in
      put c (at + 1) h l
      ∙ ap (λ (b : Bool). cond (b && is_in members c) (words c) (standing (begins_at rows seam at c) (at + 1))) (ne_eqb (at + 1) at apart)
      ∙ carried (begins_at rows seam at c) at (at + 1) (omega arith) (λ u low high. subst (λ (k : ℕ). begins_at rows seam at c k ≡ None) (omega (arith, low, high)) (begins_not rows seam at c (at + 1) e (λ q. absurd (apart q))))

  pub noted_next : IsNoted rows1 seam1 (at + 1) width n1
  noted_next = record {
    apart = λ c h.
        let g = go.among c (ap (λ (v : List ℕ). is_in v c) (sym is_apart) ∙ h) in
        let o = told.others c g.1 in
        (g.0, λ e. o.2 (sym (now_next c g.0 g.2 g.3) ∙ e ∙ before_next c ∙ now_at c g.0 o.1));
    known = λ c l h. by_kind c l (is_in moved c) refl h;
  }
    where
      first : (c : ℕ) → get_or n1.heads.items c 0 ≡ get_or n.heads.items c 0
      first c = ap (λ (v : List ℕ). get_or v c 0) is_heads

      shows : (c : ℕ) → c < width → is_in members c ≡ true → get_or (words c) 0 0 ≡ get_or (standing_before (begins_at rows1 seam1 (at + 1) c) (at + 1)) 0 0
      shows c l m = ap (λ (v : List ℕ). get_or v 0 0) (sym (before_next c ∙ now_at c l m))

      by_kind : (c : ℕ) → c < width → (b : Bool) → is_in moved c ≡ b → is_in n1.known.items c ≡ true → get_or n1.heads.items c 0 ≡ get_or (standing_before (begins_at rows1 seam1 (at + 1) c) (at + 1)) 0 0
      by_kind c l true e h = first c ∙ firsts c l e ∙ shows c l (sorted.among c l e)
      by_kind c l false e h =
          let p = both (is_in n.known.items c) (is_in members c) (sym (is_known c (omega (arith, l, room)) ∙ ap (λ (b : Bool). (is_in n.known.items c && is_in members c) || b) e ∙ or_false (is_in n.known.items c && is_in members c)) ∙ h) in
          first c ∙ noted.known c l p.0 ∙ ap (λ (v : List ℕ). get_or v 0 0) (sym (still c l p.1 (sorted.still c l p.1 e))) ∙ shows c l p.1
        where
          or_false : (b : Bool) → (b || false) ≡ b
          or_false true = refl
          or_false false = refl
