-- A row without words is filled.
use Rattle.std.proofs.Common.{◌≡◌, ℕ, zero, suc, ◌+◌, ◌-◌, ◌<◌, ◌≤◌, ◌∙◌, ◌⊎◌, inl, inr, sym, ap, refl, subst, arith, Bool, true, false, unwrap_or, Option, Some, None, List, [], ◌∷◌, ◌++◌, length, get_or}
use Rattle.std.proofs.lemmas.Bool.{cases_eq}
use Rattle.change_rows.specs.Cells.{Held, no_cell, found, end_of, component_at, IsAscending}
use Rattle.change_rows.specs.Marks.{is_in}
use Rattle.change_rows.specs.Standing.{standing}
use Rattle.change_rows.specs.Changes.{row_at, begins_at}
use Rattle.change_rows.proofs.Finding.{ascends, found_at, below_end}
use Rattle.change_rows.proofs.Standing.{at_once, begins_seam}
use Rattle.change_rows.proofs.Editing.{pushed_same, pushed_other}
use Rattle.change_rows.proofs.Sourcing.{not_in, member_low}

-- components climb by at least one
climbs : (cells : List Held) → IsAscending cells → (i k : ℕ) → i + k < length cells → component_at cells i + k ≤ component_at cells (i + k)
climbs cells asc i zero h = let e : i ≡ i + zero = omega arith in omega (arith, ap (component_at cells) e)
climbs cells asc i (suc k) h =
    let e : i + suc k ≡ (i + k) + 1 = omega arith in
    let step : component_at cells (i + k) < component_at cells ((i + k) + 1) = ascends cells asc (i + k) ((i + k) + 1) (omega arith) (omega (arith, h)) in
    omega (arith, climbs cells asc i k (omega (arith, h)), step, ap (component_at cells) e)

-- as many cells as there are components: each has one
pub full : (cells : List Held) (width c : ℕ) → IsAscending cells → length cells ≡ width → end_of cells ≤ width → c < width → found cells c ≡ Some (get_or cells c no_cell).words
full cells width c asc len end h = ap (found cells) (sym place) ∙ found_at cells c asc here
  where
    here : c < length cells
    here = omega (arith, h, len)

    low : component_at cells 0 + c ≤ component_at cells (0 + c)
    low = climbs cells asc 0 c (omega (arith, here))

    high : component_at cells c + (width - 1 - c) ≤ component_at cells (c + (width - 1 - c))
    high = climbs cells asc c (width - 1 - c) (omega (arith, h, len))

    last : component_at cells (c + (width - 1 - c)) < end_of cells
    last = below_end cells (c + (width - 1 - c)) (omega (arith, h, len))

    place : component_at cells c ≡ c
    place = let e : 0 + c ≡ c = omega arith in omega (arith, low, ap (component_at cells) e, high, last, end, h)

-- a seam that stands at a row in which nothing else begins, and of which all cells have no words
pub blank_seam : (rows : List (List Held)) (seam : List Held) (at t width c : ℕ) → IsAscending seam → length seam ≡ width → end_of seam ≤ width → at ≡ t → row_at rows t ≡ [] → standing (begins_at rows seam at c) t ≡ [] → c < width → found seam c ≡ Some []
blank_seam rows seam at t width c asc len end here empty none h =
    let w = (get_or seam c no_cell).words in
    let there : found seam c ≡ Some w = full seam width c asc len end h in
    let stands : standing (begins_at rows seam at c) t ≡ w = at_once (begins_at rows seam at c) t w (begins_seam rows seam at c t (ap (λ (r : List Held). found r c) empty) (sym here) ∙ there) in
    there ∙ ap Some (sym stands ∙ none)

-- what stands at a row in which nothing else begins than a seam of cells without words
pub blank_stands : (rows : List (List Held)) (seam : List Held) (at t width c : ℕ) → IsAscending seam → length seam ≡ width → end_of seam ≤ width → at ≡ t → row_at rows t ≡ [] → (get_or seam c no_cell).words ≡ [] → c < width → standing (begins_at rows seam at c) t ≡ []
blank_stands rows seam at t width c asc len end here empty none h =
    at_once (begins_at rows seam at c) t [] (begins_seam rows seam at c t (ap (λ (r : List Held). found r c) empty) (sym here) ∙ full seam width c asc len end h ∙ ap Some none)

-- what a row without words and the row behind it hold
pub filled_kept : (moved : Bool) (o : Option (List ℕ)) (before w : List ℕ) → (moved ≡ true → o ≡ Some w) → (moved ≡ false → o ≡ None) → (moved ≡ false → w ≡ before) → unwrap_or o before ≡ w
filled_kept false o before w written none same = ap (λ (x : Option (List ℕ)). unwrap_or x before) (none refl) ∙ sym (same refl)
filled_kept true o before w written none same = ap (λ (x : Option (List ℕ)). unwrap_or x before) (written refl)

pub blank_kept : (o : Option (List ℕ)) (v w : List ℕ) → o ≡ Some [] → w ≡ [] → unwrap_or o v ≡ w
blank_kept o v w e f = ap (λ (x : Option (List ℕ)). unwrap_or x v) e ∙ sym f

-- a row has the cells of one component more of a set
module _ (moved : List ℕ) (words : ℕ → List ℕ) (c next : ℕ) (row row1 : List Held) (pushed : row1 ≡ row ++ record { component = c; words = words c } ∷ []) (above : end_of row ≤ c) (member : is_in moved c ≡ true) where
  pub filled_more : ((d : ℕ) → c + 1 ≤ d → d < next → is_in moved d ≡ false) → ((d : ℕ) → d < c → is_in moved d ≡ true → found row d ≡ Some (words d)) → (d : ℕ) → d < next → is_in moved d ≡ true → found row1 d ≡ Some (words d)
  filled_more none before d h m = by_place (cases_eq d c)
    where
      by_place : (d ≡ c) ⊎ (d ≡ c → ⊥) → found row1 d ≡ Some (words d)
      by_place (inl e) = subst (λ (k : ℕ). found row1 k ≡ Some (words k)) (sym e) (pushed_same row row1 c (words c) pushed above)
      by_place (inr n) =
          let low : d < c + 1 = member_low moved (c + 1) next none d h m in
          pushed_other row row1 c (words c) pushed d n ∙ before d (omega (arith, low, n)) m

  pub filled_still : ((d : ℕ) → is_in moved d ≡ false → found row d ≡ None) → (d : ℕ) → is_in moved d ≡ false → found row1 d ≡ None
  filled_still before d m = pushed_other row row1 c (words c) pushed d (λ e. not_in moved d m (ap (is_in moved) e ∙ member)) ∙ before d m
