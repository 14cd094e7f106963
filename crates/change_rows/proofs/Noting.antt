-- What is noted beside the rows.
use Rattle.std.proofs.Common.{◌≡◌, ℕ, ◌+◌, ◌<◌, ◌≤◌, ◌∙◌, ◌⊎◌, inl, inr, sym, ap, refl, subst, arith, Bool, true, false, is_some, unwrap_or, Option, Some, None, List, [], get_or}
use Rattle.std.proofs.lemmas.Bool.{cases_eq, cases_lt, false≢true}
use Rattle.change_rows.specs.Cells.{Held, found, end_of}
use Rattle.change_rows.specs.Marks.{is_in}
use Rattle.change_rows.specs.Standing.{standing, standing_before}
use Rattle.change_rows.specs.Changes.{row_at, begins_at, IsChanges}
use Rattle.change_rows.specs.Kinds.{IsRoomy, HasRoom, IsNoted, IsKept, AreBegun, IsRowLaid, AreHeads, IsSeamLaid}
use Rattle.change_rows.specs.declared.kinds.Kinds.{Kinds}
use Rattle.change_rows.specs.declared.notes.Notes.{Notes}
use Rattle.change_rows.proofs.Standing.{at_once, begins_seam}
use Rattle.change_rows.proofs.Sourcing.{not_in, member_low}

-- nothing is known
pub forgotten : (rows : List (List Held)) (seam : List Held) (at width : ℕ) (n : Notes) → ((c : ℕ) → is_in n.apart.items c ≡ false) → ((c : ℕ) → is_in n.known.items c ≡ false) → IsNoted rows seam at width n
forgotten rows seam at width n apart known = record {
  apart = λ c h. absurd (not_in n.apart.items c (apart c) h);
  known = λ c _ h. absurd (not_in n.known.items c (known c) h);
}

-- a first word more is kept
pub head_more : (rows : List (List Held)) (seam : List Held) (at width c : ℕ) (words : List ℕ) (n n1 : Notes) → IsNoted rows seam at width n → words ≡ standing_before (begins_at rows seam at c) at → n1.apart.items ≡ n.apart.items → get_or n1.heads.items c 0 ≡ get_or words 0 0 → ((d : ℕ) → (d ≡ c → ⊥) → (is_in n1.known.items d ≡ is_in n.known.items d) × (get_or n1.heads.items d 0 ≡ get_or n.heads.items d 0)) → IsNoted rows seam at width n1
head_more rows seam at width c words n n1 noted still apart here others = record {
  apart = λ d h. noted.apart d (ap (λ (v : List ℕ). is_in v d) (sym apart) ∙ h);
  known = λ d l h. by_place d l h (cases_eq d c);
}
  where
    by_place : (d : ℕ) → d < width → is_in n1.known.items d ≡ true → (d ≡ c) ⊎ (d ≡ c → ⊥) → get_or n1.heads.items d 0 ≡ get_or (standing_before (begins_at rows seam at d) at) 0 0
    by_place d l h (inl e) = subst (λ (k : ℕ). get_or n1.heads.items k 0 ≡ get_or (standing_before (begins_at rows seam at k) at) 0 0) (sym e) (here ∙ ap (λ (v : List ℕ). get_or v 0 0) still)
    by_place d l h (inr m) = (others d m).1 ∙ noted.known d l (sym (others d m).0 ∙ h)

-- no component of a set is where there is none of another one that has all of them
pub none_among : (moved laid : List ℕ) (p q width : ℕ) → q ≤ width → ((c : ℕ) → c < width → is_in moved c ≡ true → is_in laid c ≡ true) → ((d : ℕ) → p ≤ d → d < q → is_in laid d ≡ false) → (d : ℕ) → p ≤ d → d < q → is_in moved d ≡ false
none_among moved laid p q width within among none d low high = by_bit (is_in moved d) refl
  where
    by_bit : (b : Bool) → is_in moved d ≡ b → is_in moved d ≡ false
    by_bit false e = e
    by_bit true e = absurd (not_in laid d (none d low high) (among d (omega (arith, high, within)) e))

is_none : (o : Option (List ℕ)) → is_some o ≡ false → o ≡ None
is_none None e = refl
is_none (Some w) e = absurd (false≢true (sym e))

no_member : (set : List ℕ) (d : ℕ) → (is_in set d ≡ true → ⊥) → is_in set d ≡ false
no_member set d n = by_bit (is_in set d) refl
  where
    by_bit : (b : Bool) → is_in set d ≡ b → is_in set d ≡ false
    by_bit false e = e
    by_bit true e = absurd (n e)

-- one component more of which the row is laid
module _ (rows : List (List Held)) (seam : List Held) (at : ℕ) (moved laid : List ℕ) (words : ℕ → List ℕ) where
  pub row_start : IsRowLaid rows seam at moved laid words 0 []
  row_start = record {
    put = λ c h. absurd (omega (arith, h));
    begun = λ c h. absurd (omega (arith, h));
    none = λ c _. refl;
    end = omega arith;
  }

  pub row_on : (low c : ℕ) (row : List Held) → IsRowLaid rows seam at moved laid words low row → low ≤ c → ((d : ℕ) → low ≤ d → d < c → is_in laid d ≡ false) → IsRowLaid rows seam at moved laid words c row
  row_on low c row was order none = record {
    put = λ d h l m. was.put d (member_low laid low c none d h l) l m;
    begun = λ d h l m. was.begun d (member_low laid low c none d h l) l m;
    none = λ d n. was.none d (λ h l. n (omega (arith, h, order)) l);
    end = omega (arith, was.end, order);
  }

  pub row_more : (c : ℕ) (row row1 : List Held) → IsRowLaid rows seam at moved laid words c row → is_in laid c ≡ true → (is_in moved c ≡ true → unwrap_or (found row1 c) (standing_before (begins_at rows seam at c) at) ≡ words c) → (is_in moved c ≡ false → found row1 c ≡ begins_at rows seam at c at) → ((d : ℕ) → (d ≡ c → ⊥) → found row1 d ≡ found row d) → end_of row1 ≤ c + 1 → IsRowLaid rows seam at moved laid words (c + 1) row1
  row_more c row row1 was member kept begun others end = record {
    put = λ d h l m. by_put d h l m (cases_eq d c);
    begun = λ d h l m. by_begun d h l m (cases_eq d c);
    none = λ d n. by_none d n (cases_eq d c);
    end = end;
  }
    where
      by_put : (d : ℕ) → d < c + 1 → is_in laid d ≡ true → is_in moved d ≡ true → (d ≡ c) ⊎ (d ≡ c → ⊥) → unwrap_or (found row1 d) (standing_before (begins_at rows seam at d) at) ≡ words d
      by_put d h l m (inl e) = subst (λ (k : ℕ). unwrap_or (found row1 k) (standing_before (begins_at rows seam at k) at) ≡ words k) (sym e) (kept (ap (is_in moved) (sym e) ∙ m))
      by_put d h l m (inr n) = ap (λ (o : Option (List ℕ)). unwrap_or o (standing_before (begins_at rows seam at d) at)) (others d n) ∙ was.put d (omega (arith, h, n)) l m

      by_begun : (d : ℕ) → d < c + 1 → is_in laid d ≡ true → is_in moved d ≡ false → (d ≡ c) ⊎ (d ≡ c → ⊥) → found row1 d ≡ begins_at rows seam at d at
      by_begun d h l m (inl e) = subst (λ (k : ℕ). found row1 k ≡ begins_at rows seam at k at) (sym e) (begun (ap (is_in moved) (sym e) ∙ m))
      by_begun d h l m (inr n) = others d n ∙ was.begun d (omega (arith, h, n)) l m

      by_none : (d : ℕ) → (d < c + 1 → is_in laid d ≡ true → ⊥) → (d ≡ c) ⊎ (d ≡ c → ⊥) → found row1 d ≡ None
      by_none d n (inl e) = absurd (n (omega (arith, e)) (ap (is_in laid) e ∙ member))
      by_none d n (inr m) = others d m ∙ was.none d (λ h l. n (omega (arith, h)) l)

-- one first word more
module _ (moved : List ℕ) (words : ℕ → List ℕ) (heads0 : List ℕ) where
  pub heads_start : AreHeads moved words 0 heads0 heads0
  heads_start = record {
    put = λ c h. absurd (omega (arith, h));
    others = λ c _. refl;
  }

  pub heads_on : (low c : ℕ) (heads : List ℕ) → AreHeads moved words low heads0 heads → ((d : ℕ) → low ≤ d → d < c → is_in moved d ≡ false) → AreHeads moved words c heads0 heads
  heads_on low c heads was none = record {
    put = λ d h m. was.put d (member_low moved low c none d h m) m;
    others = was.others;
  }

  pub heads_more : (c : ℕ) (heads heads1 : List ℕ) → AreHeads moved words c heads0 heads → (is_in moved c ≡ true → get_or heads1 c 0 ≡ get_or (words c) 0 0) → ((d : ℕ) → (d ≡ c → is_in moved c ≡ true → ⊥) → get_or heads1 d 0 ≡ get_or heads d 0) → AreHeads moved words (c + 1) heads0 heads1
  heads_more c heads heads1 was here others = record {
    put = λ d h m. by_place d h m (cases_eq d c);
    others = λ d m. others d (λ e i. not_in moved d m (ap (is_in moved) e ∙ i)) ∙ was.others d m;
  }
    where
      by_place : (d : ℕ) → d < c + 1 → is_in moved d ≡ true → (d ≡ c) ⊎ (d ≡ c → ⊥) → get_or heads1 d 0 ≡ get_or (words d) 0 0
      by_place d h m (inl e) = subst (λ (k : ℕ). get_or heads1 k 0 ≡ get_or (words k) 0 0) (sym e) (here (ap (is_in moved) (sym e) ∙ m))
      by_place d h m (inr n) = others d (λ e _. n e) ∙ was.put d (omega (arith, h, n)) m

-- one component more of which what stood goes on
module _ (rows : List (List Held)) (seam : List Held) (at : ℕ) (kept : List ℕ) where
  pub seam_start : IsSeamLaid rows seam at kept 0 []
  seam_start = record {
    put = λ c h. absurd (omega (arith, h));
    none = λ c _. refl;
    end = omega arith;
  }

  pub seam_on : (low c : ℕ) (out : List Held) → IsSeamLaid rows seam at kept low out → low ≤ c → ((d : ℕ) → low ≤ d → d < c → is_in kept d ≡ false) → IsSeamLaid rows seam at kept c out
  seam_on low c out was order none = record {
    put = λ d h m. was.put d (member_low kept low c none d h m) m;
    none = λ d n. was.none d (λ h m. n (omega (arith, h, order)) m);
    end = omega (arith, was.end, order);
  }

  pub seam_more : (c : ℕ) (out out1 : List Held) → IsSeamLaid rows seam at kept c out → is_in kept c ≡ true → found out1 c ≡ Some (standing (begins_at rows seam at c) at) → ((d : ℕ) → (d ≡ c → ⊥) → found out1 d ≡ found out d) → end_of out1 ≤ c + 1 → IsSeamLaid rows seam at kept (c + 1) out1
  seam_more c out out1 was member here others end = record {
    put = λ d h m. by_place d h m (cases_eq d c);
    none = λ d n. by_none d n (cases_eq d c);
    end = end;
  }
    where
      by_place : (d : ℕ) → d < c + 1 → is_in kept d ≡ true → (d ≡ c) ⊎ (d ≡ c → ⊥) → found out1 d ≡ Some (standing (begins_at rows seam at d) at)
      by_place d h m (inl e) = subst (λ (k : ℕ). found out1 k ≡ Some (standing (begins_at rows seam at k) at)) (sym e) here
      by_place d h m (inr n) = others d n ∙ was.put d (omega (arith, h, n)) m

      by_none : (d : ℕ) → (d < c + 1 → is_in kept d ≡ true → ⊥) → (d ≡ c) ⊎ (d ≡ c → ⊥) → found out1 d ≡ None
      by_none d n (inl e) = absurd (n (omega (arith, e)) (ap (is_in kept) e ∙ member))
      by_none d n (inr m) = others d m ∙ was.none d (λ h i. n (omega (arith, h)) i)

  -- the cells of the seam of all components of the set before another one, at none of which the row itself has a cell
  pub seam_run : (c next width : ℕ) (k : Kinds) (out out1 : List Held) → IsSeamLaid rows seam at kept c out → c ≤ next → next ≤ width → AreBegun rows seam at width k → ((d : ℕ) → c ≤ d → d < next → is_in kept d ≡ is_in k.under.items d) → ((d : ℕ) → c ≤ d → d < next → is_in kept d ≡ true → is_in k.own.items d ≡ false) → ((d : ℕ) → c ≤ d → d < next → found out1 d ≡ found seam d) → ((d : ℕ) → (c ≤ d → d < next → ⊥) → found out1 d ≡ found out d) → end_of out1 ≤ next → IsSeamLaid rows seam at kept next out1
  seam_run c next width k out out1 was order within begins same other between others end = record {
    put = λ d h m. by_place d h m (cases_lt d c);
    none = λ d n. by_none d n (cases_lt d c) (cases_lt d next);
    end = end;
  }
    where
      stood_is : (d : ℕ) (o : Option (List ℕ)) → found (row_at rows at) d ≡ None → found seam d ≡ o → is_some o ≡ true → found seam d ≡ Some (standing (begins_at rows seam at d) at)
      stood_is d None f e i = absurd (false≢true i)
      stood_is d (Some w) f e i = e ∙ ap Some (sym (at_once (begins_at rows seam at d) at w (begins_seam rows seam at d at f refl ∙ e)))

      by_place : (d : ℕ) → d < next → is_in kept d ≡ true → (d < c) ⊎ (c ≤ d) → found out1 d ≡ Some (standing (begins_at rows seam at d) at)
      by_place d h m (inl low) = others d (λ p _. omega (arith, low, p)) ∙ was.put d low m
      by_place d h m (inr high) =
          between d high h
          ∙ stood_is d (found seam d) (is_none (found (row_at rows at) d) (sym (begins.own d (omega (arith, h, within))) ∙ other d high h m)) refl (sym (begins.under d (omega (arith, h, within))) ∙ sym (same d high h) ∙ m)

      by_none : (d : ℕ) → (d < next → is_in kept d ≡ true → ⊥) → (d < c) ⊎ (c ≤ d) → (d < next) ⊎ (next ≤ d) → found out1 d ≡ None
      by_none d n (inl low) _ = others d (λ p _. omega (arith, low, p)) ∙ was.none d (λ h m. n (omega (arith, h, order)) m)
      by_none d n (inr high) (inl h) = between d high h ∙ is_none (found seam d) (sym (begins.under d (omega (arith, h, within))) ∙ sym (same d high h) ∙ no_member kept d (n h))
      by_none d n (inr high) (inr h) = others d (λ _ p. omega (arith, h, p)) ∙ was.none d (λ p _. omega (arith, high, p))

-- rows about which nothing is known
pub kept_anew : (width width1 : ℕ) (rows : List (List Held)) (marks : List (List ℕ)) (seam : List Held) (at : ℕ) (k : Kinds) (n n1 : Notes) → IsChanges width1 rows marks seam at → width1 ≡ width → IsRoomy width k → HasRoom width n → ((w : ℕ) → HasRoom w n → HasRoom w n1) → ((c : ℕ) → is_in n1.apart.items c ≡ false) → ((c : ℕ) → is_in n1.known.items c ≡ false) → IsKept width1 rows marks seam at k n1
kept_anew width width1 rows marks seam at k n n1 changes same room notes on apart known = record {
  changes = changes;
  room = subst (λ (v : ℕ). IsRoomy v k) (sym same) room;
  notes = subst (λ (v : ℕ). HasRoom v n1) (sym same) (on width notes);
  noted = forgotten rows seam at width1 n1 apart known;
}
