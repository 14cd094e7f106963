-- What stands once a row is put.
use Rattle.std.proofs.Common.{◌≡◌, ℕ, zero, suc, ◌+◌, ◌<◌, ◌≤◌, ◌∙◌, ◌⊎◌, inl, inr, sym, ap, refl, arith, Bool, cond, eqb, unwrap_or, Option, Some, None, List, [], length}
use Rattle.std.specs.Option.{option_or}
use Rattle.std.proofs.Math.ListN.{set}
use Rattle.std.proofs.lemmas.Bool.{cases_eq, cases_lt, eq-eqb, ne_eqb}
use Rattle.std.proofs.lemmas.List.{get_or-set_same, get_or-set_other}
use Rattle.change_rows.specs.Cells.{Held, found}
use Rattle.change_rows.specs.Standing.{standing, standing_before}
use Rattle.change_rows.specs.Changes.{row_at, begins_at}
use Rattle.change_rows.proofs.Editing.{no_seam, or_none}

-- the same begins up to a cycle
pub alike : (begins begins1 : ℕ → Option (List ℕ)) (t : ℕ) → ((u : ℕ) → u ≤ t → begins1 u ≡ begins u) → standing begins1 t ≡ standing begins t
alike begins begins1 zero same = ap (λ (o : Option (List ℕ)). unwrap_or o []) (same 0 (omega arith))
alike begins begins1 (suc t) same =
    ap (λ (o : Option (List ℕ)). unwrap_or o (standing begins1 t)) (same (suc t) (omega arith))
    ∙ ap (unwrap_or (begins (suc t))) (alike begins begins1 t (λ u h. same u (omega arith)))

pub alike_before : (begins begins1 : ℕ → Option (List ℕ)) (t : ℕ) → ((u : ℕ) → u < t → begins1 u ≡ begins u) → standing_before begins1 t ≡ standing_before begins t
alike_before begins begins1 zero same = refl
alike_before begins begins1 (suc t) same = alike begins begins1 t (λ u h. same u (omega arith))

pub stands_by : (begins : ℕ → Option (List ℕ)) (t : ℕ) → standing begins t ≡ unwrap_or (begins t) (standing_before begins t)
stands_by begins zero = refl
stands_by begins (suc t) = refl

-- other words stand at one cycle, and behind it what stood
module _ (begins begins1 : ℕ → Option (List ℕ)) (t n : ℕ) (w : List ℕ)
    (before : (u : ℕ) → u < t → begins1 u ≡ begins u)
    (here : unwrap_or (begins1 t) (standing_before begins t) ≡ w)
    (next : t + 1 < n → unwrap_or (begins1 (t + 1)) w ≡ unwrap_or (begins (t + 1)) (standing begins t))
    (after : (u : ℕ) → t + 1 < u → u < n → begins1 u ≡ begins u) where
  stands_here : standing begins1 t ≡ w
  stands_here = stands_by begins1 t ∙ ap (unwrap_or (begins1 t)) (alike_before begins begins1 t before) ∙ here

  stands_next : t + 1 < n → standing begins1 (suc t) ≡ standing begins (suc t)
  stands_next h =
      let e : suc t ≡ t + 1 = omega arith in
      ap (unwrap_or (begins1 (suc t))) stands_here
      ∙ ap (λ (k : ℕ). unwrap_or (begins1 k) w) e ∙ next h ∙ ap (λ (k : ℕ). unwrap_or (begins k) (standing begins t)) (sym e)

  stands_after : (u : ℕ) → t < u → u < n → standing begins1 u ≡ standing begins u
  stands_after zero low high = absurd (omega arith)
  stands_after (suc u) low high = by_place (cases_eq u t) (λ l. stands_after u l (omega arith))
    where
      by_place : (u ≡ t) ⊎ (u ≡ t → ⊥) → (t < u → standing begins1 u ≡ standing begins u) → standing begins1 (suc u) ≡ standing begins (suc u)
      by_place (inl e) more =
          let s : suc u ≡ suc t = omega (arith, e) in
          ap (standing begins1) s ∙ stands_next (omega (arith, e, high)) ∙ ap (standing begins) (sym s)
      by_place (inr ne) more =
          let l : t < u = omega (arith, ne, low) in
          ap (λ (o : Option (List ℕ)). unwrap_or o (standing begins1 u)) (after (suc u) (omega arith) high)
          ∙ ap (unwrap_or (begins (suc u))) (more l)

  pub stands_put : (u : ℕ) → u < n → standing begins1 u ≡ cond (eqb u t) w (standing begins u)
  stands_put u h = by_place (cases_eq u t)
    where
      by_place : (u ≡ t) ⊎ (u ≡ t → ⊥) → standing begins1 u ≡ cond (eqb u t) w (standing begins u)
      by_place (inl e) = ap (standing begins1) e ∙ stands_here ∙ sym (ap (λ (b : Bool). cond b w (standing begins u)) (eq-eqb u t e))
      by_place (inr ne) = by_order (cases_lt u t) ∙ sym (ap (λ (b : Bool). cond b w (standing begins u)) (ne_eqb u t ne))
        where
          by_order : (u < t) ⊎ (t ≤ u) → standing begins1 u ≡ standing begins u
          by_order (inl l) = alike begins begins1 u (λ k m. before k (omega arith))
          by_order (inr l) = stands_after u (omega (arith, l, ne)) h

-- a draft is put at row t; no seam stands elsewhere
module _ (rows : List (List Held)) (seam seam1 row draft : List Held) (at t c : ℕ)
    (here : t < length rows)
    (elsewhere : (at ≡ t → ⊥) → seam ≡ [])
    (kept : (w : List ℕ) → found draft c ≡ Some w → unwrap_or (found row c) (standing_before (begins_at rows seam at c) t) ≡ w)
    (others : found draft c ≡ None → found row c ≡ option_or (found (row_at rows t) c) (found seam c))
    (seam_kept : t + 1 < length rows → (w : List ℕ) → found draft c ≡ Some w → found (row_at rows (t + 1)) c ≡ None → unwrap_or (found seam1 c) w ≡ standing (begins_at rows seam at c) t)
    (seam_only : found draft c ≡ None → found seam1 c ≡ None) where
  abbrev olds : ℕ → Option (List ℕ)
  olds u = begins_at rows seam at c u

  abbrev news : ℕ → Option (List ℕ)
  news u = begins_at (set rows t row) seam1 (t + 1) c u

  old_here : olds t ≡ option_or (found (row_at rows t) c) (found seam c)
  old_here = by_place (cases_eq t at)
    where
      by_place : (t ≡ at) ⊎ (t ≡ at → ⊥) → olds t ≡ option_or (found (row_at rows t) c) (found seam c)
      by_place (inl e) = ap (λ (b : Bool). option_or (found (row_at rows t) c) (cond b (found seam c) None)) (eq-eqb t at e)
      by_place (inr n) =
          ap (λ (b : Bool). option_or (found (row_at rows t) c) (cond b (found seam c) None)) (ne_eqb t at n)
          ∙ ap (λ (v : List Held). option_or (found (row_at rows t) c) (found v c)) (sym (elsewhere (λ e. n (sym e))))

  old_elsewhere : (u : ℕ) → (u ≡ t → ⊥) → olds u ≡ found (row_at rows u) c
  old_elsewhere u n = by_place (cases_eq at t)
    where
      by_place : (at ≡ t) ⊎ (at ≡ t → ⊥) → olds u ≡ found (row_at rows u) c
      by_place (inl e) = ap (λ (b : Bool). option_or (found (row_at rows u) c) (cond b (found seam c) None)) (ne_eqb u at (λ q. n (q ∙ e))) ∙ or_none (found (row_at rows u) c)
      by_place (inr m) = ap (λ (v : List Held). begins_at rows v at c u) (elsewhere m) ∙ no_seam rows at c u

  new_row : (u : ℕ) → (u ≡ t → ⊥) → found (row_at (set rows t row) u) c ≡ found (row_at rows u) c
  new_row u n = ap (λ (r : List Held). found r c) (get_or-set_other rows t u row [] n)

  new_here : news t ≡ found row c
  new_here =
      let ne : t ≡ t + 1 → ⊥ = λ e. absurd (omega (arith, e)) in
      ap (λ (b : Bool). option_or (found (row_at (set rows t row) t) c) (cond b (found seam1 c) None)) (ne_eqb t (t + 1) ne)
      ∙ or_none (found (row_at (set rows t row) t) c)
      ∙ ap (λ (r : List Held). found r c) (get_or-set_same rows t row [] here)

  new_next : news (t + 1) ≡ option_or (found (row_at rows (t + 1)) c) (found seam1 c)
  new_next =
      ap (λ (b : Bool). option_or (found (row_at (set rows t row) (t + 1)) c) (cond b (found seam1 c) None)) (eq-eqb (t + 1) (t + 1) refl)
      ∙ ap (λ (o : Option (List ℕ)). option_or o (found seam1 c)) (new_row (t + 1) (λ e. absurd (omega (arith, e))))

  new_elsewhere : (u : ℕ) → (u ≡ t → ⊥) → (u ≡ t + 1 → ⊥) → news u ≡ found (row_at rows u) c
  new_elsewhere u n m =
      ap (λ (b : Bool). option_or (found (row_at (set rows t row) u) c) (cond b (found seam1 c) None)) (ne_eqb u (t + 1) m)
      ∙ or_none (found (row_at (set rows t row) u) c) ∙ new_row u n

  same_elsewhere : (u : ℕ) → (u ≡ t → ⊥) → (u ≡ t + 1 → ⊥) → news u ≡ olds u
  same_elsewhere u n m = new_elsewhere u n m ∙ sym (old_elsewhere u n)

  is_here : (o : Option (List ℕ)) → found draft c ≡ o → unwrap_or (news t) (standing_before olds t) ≡ unwrap_or o (standing olds t)
  is_here None e = ap (λ (v : Option (List ℕ)). unwrap_or v (standing_before olds t)) (new_here ∙ others e ∙ sym old_here) ∙ sym (stands_by olds t)
  is_here (Some w) e = ap (λ (v : Option (List ℕ)). unwrap_or v (standing_before olds t)) new_here ∙ kept w e

  is_next : t + 1 < length rows → (o p : Option (List ℕ)) → found draft c ≡ o → found (row_at rows (t + 1)) c ≡ p → unwrap_or (news (t + 1)) (unwrap_or o (standing olds t)) ≡ unwrap_or (olds (t + 1)) (standing olds t)
  is_next h o (Some x) e f =
      let ne : t + 1 ≡ t → ⊥ = λ q. absurd (omega (arith, q)) in
      ap (λ (v : Option (List ℕ)). unwrap_or v (unwrap_or o (standing olds t))) (new_next ∙ ap (λ (v : Option (List ℕ)). option_or v (found seam1 c)) f)
      ∙ sym (ap (λ (v : Option (List ℕ)). unwrap_or v (standing olds t)) (old_elsewhere (t + 1) ne ∙ f))
  is_next h None None e f =
      let ne : t + 1 ≡ t → ⊥ = λ q. absurd (omega (arith, q)) in
      ap (λ (v : Option (List ℕ)). unwrap_or v (standing olds t)) (new_next ∙ ap (λ (v : Option (List ℕ)). option_or v (found seam1 c)) f ∙ seam_only e)
      ∙ sym (ap (λ (v : Option (List ℕ)). unwrap_or v (standing olds t)) (old_elsewhere (t + 1) ne ∙ f))
  is_next h (Some w) None e f =
      let ne : t + 1 ≡ t → ⊥ = λ q. absurd (omega (arith, q)) in
      ap (λ (v : Option (List ℕ)). unwrap_or v w) (new_next ∙ ap (λ (v : Option (List ℕ)). option_or v (found seam1 c)) f)
      ∙ seam_kept h w e f
      ∙ sym (ap (λ (v : Option (List ℕ)). unwrap_or v (standing olds t)) (old_elsewhere (t + 1) ne ∙ f))

  pub put_stands : (u : ℕ) → u < length rows → standing news u ≡ cond (eqb u t) (unwrap_or (found draft c) (standing olds t)) (standing olds u)
  put_stands u h =
      stands_put olds news t (length rows) (unwrap_or (found draft c) (standing olds t))
      (λ k l. same_elsewhere k (λ e. absurd (omega (arith, e, l))) (λ e. absurd (omega (arith, e, l))))
      (is_here (found draft c) refl)
      (λ l. is_next l (found draft c) (found (row_at rows (t + 1)) c) refl refl)
      (λ k l m. same_elsewhere k (λ e. absurd (omega (arith, e, l))) (λ e. absurd (omega (arith, e, l))))
      u h

-- the same once the seam of another row was settled
pub put_at : (rows0 rows rows1 : List (List Held)) (seam0 seam seam1 seam2 row row1 draft : List Held) (at0 at t c : ℕ) → ((u : ℕ) → begins_at rows seam at c u ≡ begins_at rows0 seam0 at0 c u) → length rows ≡ length rows0 → rows1 ≡ set rows t row1 → row1 ≡ row → seam2 ≡ seam1 → t < length rows → ((at ≡ t → ⊥) → seam ≡ []) → ((w : List ℕ) → found draft c ≡ Some w → unwrap_or (found row c) (standing_before (begins_at rows seam at c) t) ≡ w) → (found draft c ≡ None → found row c ≡ option_or (found (row_at rows t) c) (found seam c)) → (t + 1 < length rows → (w : List ℕ) → found draft c ≡ Some w → found (row_at rows (t + 1)) c ≡ None → unwrap_or (found seam1 c) w ≡ standing (begins_at rows seam at c) t) → (found draft c ≡ None → found seam1 c ≡ None) → (u : ℕ) → u < length rows0 → standing (begins_at rows1 seam2 (t + 1) c) u ≡ cond (eqb u t) (unwrap_or (found draft c) (standing (begins_at rows0 seam0 at0 c) u)) (standing (begins_at rows0 seam0 at0 c) u)
put_at rows0 rows rows1 seam0 seam seam1 seam2 row row1 draft at0 at t c same len e f g here elsewhere kept others seam_kept seam_only u h =
    ap (λ (r : List (List Held)). standing (begins_at r seam2 (t + 1) c) u) (e ∙ ap (set rows t) f)
    ∙ ap (λ (v : List Held). standing (begins_at (set rows t row) v (t + 1) c) u) g
    ∙ put_stands rows seam seam1 row draft at t c here elsewhere kept others seam_kept seam_only u (omega (arith, h, len))
    ∙ by_place (cases_eq u t)
  where
    stood : (k : ℕ) → standing (begins_at rows seam at c) k ≡ standing (begins_at rows0 seam0 at0 c) k
    stood k = alike (begins_at rows0 seam0 at0 c) (begins_at rows seam at c) k (λ j _. same j)

    by_place : (u ≡ t) ⊎ (u ≡ t → ⊥) → cond (eqb u t) (unwrap_or (found draft c) (standing (begins_at rows seam at c) t)) (standing (begins_at rows seam at c) u) ≡ cond (eqb u t) (unwrap_or (found draft c) (standing (begins_at rows0 seam0 at0 c) u)) (standing (begins_at rows0 seam0 at0 c) u)
    by_place (inl q) =
        ap (λ (b : Bool). cond b (unwrap_or (found draft c) (standing (begins_at rows seam at c) t)) (standing (begins_at rows seam at c) u)) (eq-eqb u t q)
        ∙ ap (unwrap_or (found draft c)) (stood t ∙ ap (standing (begins_at rows0 seam0 at0 c)) (sym q))
        ∙ sym (ap (λ (b : Bool). cond b (unwrap_or (found draft c) (standing (begins_at rows0 seam0 at0 c) u)) (standing (begins_at rows0 seam0 at0 c) u)) (eq-eqb u t q))
    by_place (inr n) =
        ap (λ (b : Bool). cond b (unwrap_or (found draft c) (standing (begins_at rows seam at c) t)) (standing (begins_at rows seam at c) u)) (ne_eqb u t n)
        ∙ stood u
        ∙ sym (ap (λ (b : Bool). cond b (unwrap_or (found draft c) (standing (begins_at rows0 seam0 at0 c) u)) (standing (begins_at rows0 seam0 at0 c) u)) (ne_eqb u t n))

-- the same over all components
pub put_all : (rows0 rows rows1 : List (List Held)) (seam0 seam seam1 seam2 row row1 draft : List Held) (at0 at t : ℕ) → ((c u : ℕ) → begins_at rows seam at c u ≡ begins_at rows0 seam0 at0 c u) → length rows ≡ length rows0 → rows1 ≡ set rows t row1 → row1 ≡ row → seam2 ≡ seam1 → t < length rows → ((at ≡ t → ⊥) → seam ≡ []) → ((c : ℕ) (w : List ℕ) → found draft c ≡ Some w → unwrap_or (found row c) (standing_before (begins_at rows seam at c) t) ≡ w) → ((c : ℕ) → found draft c ≡ None → found row c ≡ option_or (found (row_at rows t) c) (found seam c)) → (t + 1 < length rows → (c : ℕ) (w : List ℕ) → found draft c ≡ Some w → found (row_at rows (t + 1)) c ≡ None → unwrap_or (found seam1 c) w ≡ standing (begins_at rows seam at c) t) → ((c : ℕ) → found draft c ≡ None → found seam1 c ≡ None) → (c u : ℕ) → u < length rows0 → standing (begins_at rows1 seam2 (t + 1) c) u ≡ cond (eqb u t) (unwrap_or (found draft c) (standing (begins_at rows0 seam0 at0 c) u)) (standing (begins_at rows0 seam0 at0 c) u)
put_all rows0 rows rows1 seam0 seam seam1 seam2 row row1 draft at0 at t same len e f g here elsewhere kept others seam_kept seam_only c u h =
    put_at rows0 rows rows1 seam0 seam seam1 seam2 row row1 draft at0 at t c (same c) len e f g here elsewhere (kept c) (others c) (λ l. seam_kept l c) (seam_only c) u h
