-- What stands at a cycle.
use Rattle.std.proofs.Common.{get_or, MatchOption, IfSome, ◌≡◌, ℕ, zero, suc, ◌*◌, ◌/◌, ◌<◌, ◌≤◌, ◌∙◌, ◌⊎◌, inl, inr, sym, ap, refl, arith, Bool, true, false, cond, eqb, is_some, unwrap_or, Option, Some, None, List, [], length}
use Rattle.std.specs.Option.{option_or}
use Rattle.std.proofs.lemmas.Bool.{cases_eq, cases_lt, eq-eqb, ne_eqb, false≢true}
use Rattle.change_rows.specs.Cells.{Held, found}
use Rattle.change_rows.specs.Marks.{is_marked}
use Rattle.change_rows.specs.Standing.{standing}
use Rattle.change_rows.specs.Changes.{row_at, begins_at, IsChanges}

pub none_is : (o : Option (List ℕ)) → is_some o ≡ false → o ≡ None
none_is None e = refl
none_is (Some x) e = absurd (false≢true (sym e))

pub some_is : (o : Option (List ℕ)) → is_some o ≡ true → o ≡ Some (unwrap_or o [])
some_is None e = absurd (false≢true e)
some_is (Some x) e = refl

-- where nothing begins, what stood goes on
pub carried : (begins : ℕ → Option (List ℕ)) (b t : ℕ) → b ≤ t → ((u : ℕ) → b < u → u ≤ t → begins u ≡ None) → standing begins t ≡ standing begins b
carried begins b zero h none = let e : zero ≡ b = omega arith in ap (standing begins) e
carried begins b (suc t) h none = by_place (cases_lt t b) (λ l. carried begins b t l (λ u low high. none u low (omega arith)))
  where
    by_place : (t < b) ⊎ (b ≤ t) → (b ≤ t → standing begins t ≡ standing begins b) → standing begins (suc t) ≡ standing begins b
    by_place (inl l) before = let e : suc t ≡ b = omega arith in ap (standing begins) e
    by_place (inr l) before = ap (λ (o : Option (List ℕ)). unwrap_or o (standing begins t)) (none (suc t) (omega arith) (omega arith)) ∙ before l

pub nothing : (begins : ℕ → Option (List ℕ)) (t : ℕ) → ((u : ℕ) → u ≤ t → begins u ≡ None) → standing begins t ≡ []
nothing begins zero none = ap (λ (o : Option (List ℕ)). unwrap_or o []) (none 0 (omega arith))
nothing begins (suc t) none = ap (λ (o : Option (List ℕ)). unwrap_or o (standing begins t)) (none (suc t) (omega arith)) ∙ nothing begins t (λ u h. none u (omega arith))

pub at_once : (begins : ℕ → Option (List ℕ)) (t : ℕ) (w : List ℕ) → begins t ≡ Some w → standing begins t ≡ w
at_once begins zero w e = ap (λ (o : Option (List ℕ)). unwrap_or o []) e
at_once begins (suc t) w e = ap (λ (o : Option (List ℕ)). unwrap_or o (standing begins t)) e

-- a row's own cells come first
pub begins_row : (rows : List (List Held)) (seam : List Held) (at c u : ℕ) (w : List ℕ) → found (row_at rows u) c ≡ Some w → begins_at rows seam at c u ≡ Some w
begins_row rows seam at c u w e = ap (λ (o : Option (List ℕ)). option_or o (cond (eqb u at) (found seam c) None)) e

pub begins_seam : (rows : List (List Held)) (seam : List Held) (at c u : ℕ) → found (row_at rows u) c ≡ None → u ≡ at → begins_at rows seam at c u ≡ found seam c
begins_seam rows seam at c u e h =
    ap (λ (o : Option (List ℕ)). option_or o (cond (eqb u at) (found seam c) None)) e
    ∙ ap (λ (b : Bool). cond b (found seam c) None) (eq-eqb u at h)

pub begins_not : (rows : List (List Held)) (seam : List Held) (at c u : ℕ) → found (row_at rows u) c ≡ None → (u ≡ at → found seam c ≡ None) → begins_at rows seam at c u ≡ None
begins_not rows seam at c u e h =
    ap (λ (o : Option (List ℕ)). option_or o (cond (eqb u at) (found seam c) None)) e ∙ by_place (cases_eq u at)
  where
    by_place : (u ≡ at) ⊎ (u ≡ at → ⊥) → cond (eqb u at) (found seam c) None ≡ None
    by_place (inl q) = ap (λ (b : Bool). cond b (found seam c) None) (eq-eqb u at q) ∙ h q
    by_place (inr n) = ap (λ (b : Bool). cond b (found seam c) None) (ne_eqb u at n)

module _ (width : ℕ) (rows : List (List Held)) (marks : List (List ℕ)) (seam : List Held) (at : ℕ) (s : IsChanges width rows marks seam at) (t c : ℕ) (here : t < length rows) (small : c < width) where
  pub unmarked : (u : ℕ) → u ≤ t → is_marked marks u c ≡ false → found (row_at rows u) c ≡ None
  unmarked u h e = none_is _ (sym (s.marked u c small) ∙ e)

  pub marks_here : (c < 64 * length marks) × (t < length (get_or marks (c / 64) []))
  marks_here = (omega (arith, s.room), omega (arith, s.tall (c / 64) (omega (arith, s.room))))

  -- the seam begins last
  pub seam_stands : (w : List ℕ) → at ≤ t → ((u : ℕ) → at ≤ u → u ≤ t → is_marked marks u c ≡ false) → found seam c ≡ Some w → standing (begins_at rows seam at c) t ≡ w
  seam_stands w h none e =
      carried (begins_at rows seam at c) at t h (λ u low high. begins_not rows seam at c u (unmarked u high (none u (omega arith) high)) (λ q. absurd (omega (arith, q, low))))
      ∙ at_once (begins_at rows seam at c) at w (begins_seam rows seam at c at (unmarked at h (none at (omega arith) h)) refl ∙ e)

  -- a row's cell begins last
  pub row_stands : (b : ℕ) → b ≤ t → is_marked marks b c ≡ true → ((u : ℕ) → b < u → u ≤ t → is_marked marks u c ≡ false) → (at ≤ t → b < at → found seam c ≡ None) → standing (begins_at rows seam at c) t ≡ unwrap_or (found (row_at rows b) c) []
  row_stands b h set none other =
      carried (begins_at rows seam at c) b t h (λ u low high. begins_not rows seam at c u (unmarked u high (none u low high)) (λ q. other (omega (arith, q, high)) (omega (arith, q, low))))
      ∙ at_once (begins_at rows seam at c) b _ (begins_row rows seam at c b _ (some_is _ (sym (s.marked b c small) ∙ set)))

  -- nothing has begun
  pub nothing_stands : ((u : ℕ) → u ≤ t → is_marked marks u c ≡ false) → (at ≤ t → found seam c ≡ None) → standing (begins_at rows seam at c) t ≡ []
  nothing_stands none other = nothing (begins_at rows seam at c) t (λ u h. begins_not rows seam at c u (unmarked u h (none u h)) (λ q. other (omega (arith, q, h))))

  abbrev IsLast : Option ℕ → Type 0
  IsLast last = MatchOption last ((u : ℕ) → u ≤ t → is_marked marks u c ≡ false) (λ b. (b ≤ t) × (is_marked marks b c ≡ true) × ((u : ℕ) → b < u → u ≤ t → is_marked marks u c ≡ false))

  pub seam_last : (last : Option ℕ) → IsLast last → (w : List ℕ) → (at ≤ t) × IfSome last (λ b. b < at) × (found seam c ≡ Some w) → w ≡ standing (begins_at rows seam at c) t
  seam_last None none w h = sym (seam_stands w h.0 (λ u _ high. none u high) h.2)
  seam_last (Some b) m w h = let low : b < at = h.1 in sym (seam_stands w h.0 (λ u under high. m.2 u (omega arith) high) h.2)

  pub row_last : (last : Option ℕ) → IsLast last → (at ≤ t → IfSome last (λ b. b < at) → found seam c ≡ None) → (w : List ℕ) → MatchOption last (w ≡ []) (λ b. w ≡ unwrap_or (found (row_at rows b) c) []) → w ≡ standing (begins_at rows seam at c) t
  row_last None none other w e = e ∙ sym (nothing_stands none (λ h. other h tt))
  row_last (Some b) m other w e = e ∙ sym (row_stands b m.0 m.1 m.2 (λ h l. other h l))
