-- How many cells of a row are due.
use Rattle.std.proofs.Common.{◌≡◌, ℕ, zero, suc, ◌+◌, ◌<◌, ◌≤◌, ◌∙◌, sym, ap, subst, refl, arith, Bool, true, false, cond, ◌⊎◌, inl, inr, List, [], ◌∷◌, length, replicate, get_or, sum_by}
use Rattle.std.proofs.Math.ListN.{set, length-set}
use Rattle.std.proofs.lemmas.Bool.{cases_lt}
use Rattle.std.proofs.lemmas.List.{get_or-set_other, get_or_past, take_all}
use Rattle.std.proofs.lemmas.List.Folds.{sum_by-replicate}
use Rattle.std.proofs.lemmas.List.Sums.{sum_by-set, sum_by-cons, count_by-le-length}
use Rattle.cell_marks.specs.Marked.{count_in, count_of}
use Rattle.due_cells.specs.Seen.{Held, nothing, fresh, held_in, row_at, held_at, due_in_row, due_up_to}

none_of_one : (b : Bool) (n : ℕ) → n + cond b 1 0 ≡ 0 → b ≡ false
none_of_one true n h = absurd (omega arith)
none_of_one false n h = refl

module _ {State : Type 0} where
  -- one cell of a row is replaced
  pub due_set : (row : List (Held State)) (c : ℕ) (k : Held State) → c < length row → due_in_row (set row c k) + cond (held_in row c).is_due 1 0 ≡ due_in_row row + cond k.is_due 1 0
  due_set row c k h = sum_by-set (λ (k : Held State). cond k.is_due 1 0) row c k nothing h

  -- a row with a cell that isn't due counts fewer than it has
  pub due_room : (row : List (Held State)) (c : ℕ) → c < length row → (held_in row c).is_due ≡ false → due_in_row row + 1 ≤ length row
  due_room row c h e =
      let some : Held State = fresh 0 in
      let less : due_in_row (set row c some) ≤ length (set row c some) = count_by-le-length (λ (k : Held State). k.is_due) (set row c some) in
      let same : due_in_row (set row c some) + cond (held_in row c).is_due 1 0 ≡ due_in_row row + 1 = due_set row c some h in
      let zero_one : due_in_row (set row c some) + 0 ≡ due_in_row row + 1 = subst (λ b. due_in_row (set row c some) + cond b 1 0 ≡ due_in_row row + 1) e same in
      omega (arith, length-set row c some)

  -- a row with a due cell counts it
  pub due_some : (row : List (Held State)) (c : ℕ) → c < length row → (held_in row c).is_due ≡ true → 0 < due_in_row row
  due_some row c h e =
      let same : due_in_row (set row c nothing) + cond (held_in row c).is_due 1 0 ≡ due_in_row row + 0 = due_set row c nothing h in
      let one : due_in_row (set row c nothing) + 1 ≡ due_in_row row + 0 = subst (λ b. due_in_row (set row c nothing) + cond b 1 0 ≡ due_in_row row + 0) e same in
      omega arith

  beyond : (row : List (Held State)) (c : ℕ) → length row ≤ c → held_in row c ≡ nothing
  beyond [] c h = refl
  beyond (x ∷ row) zero h = absurd (omega arith)
  beyond (x ∷ row) (suc c) h = beyond row c (omega arith)

  -- where none is counted, none is due
  pub none_due_in : (row : List (Held State)) (c : ℕ) → due_in_row row ≡ 0 → (held_in row c).is_due ≡ false
  none_due_in row c h = by_place (cases_lt c (length row))
    where
      by_place : (c < length row) ⊎ (length row ≤ c) → (held_in row c).is_due ≡ false
      by_place (inl k) = none_of_one (held_in row c).is_due (due_in_row (set row c nothing)) (omega (arith, due_set row c nothing k))
      by_place (inr k) = ap (λ (r : Held State). r.is_due) (beyond row c k)

-- every new cell is due
pub due_fresh : {State : Type 0} (row : List (Held State)) (n version : ℕ) → row ≡ replicate n (fresh version) → due_in_row row ≡ n
due_fresh {State} row n version e =
    ap due_in_row e ∙ sum_by-replicate (λ (k : Held State). cond k.is_due 1 0) n (fresh version) ∙ omega arith

-- where one row counts all that are due, no cell of another is
module _ {State : Type 0} (rows : List (List (Held State))) (t : ℕ) (all : due_up_to rows (length rows) ≡ due_in_row (row_at rows t)) where
  in_all : sum_by due_in_row rows ≡ due_in_row (row_at rows t)
  in_all = sym (ap (λ (rs : List (List (Held State))). sum_by due_in_row rs) (take_all (length rows) rows (omega arith))) ∙ all

  none_in_other : (u : ℕ) → (u ≡ t → ⊥) → u < length rows → (t < length rows) ⊎ (length rows ≤ t) → due_in_row (row_at rows u) ≡ 0
  none_in_other u other h (inl k) =
      let without : sum_by due_in_row (set rows u []) + due_in_row (row_at rows u) ≡ sum_by due_in_row rows + 0 = sum_by-set due_in_row rows u [] [] h in
      let neither : sum_by due_in_row (set (set rows u []) t []) + due_in_row (row_at (set rows u []) t) ≡ sum_by due_in_row (set rows u []) + 0 = sum_by-set due_in_row (set rows u []) t [] [] (omega (arith, k, length-set rows u [])) in
      let same : due_in_row (row_at (set rows u []) t) ≡ due_in_row (row_at rows t) = ap due_in_row (get_or-set_other rows u t [] [] (λ e. other (sym e))) in
      omega (arith, without, neither, same, in_all)
  none_in_other u other h (inr k) =
      let without : sum_by due_in_row (set rows u []) + due_in_row (row_at rows u) ≡ sum_by due_in_row rows + 0 = sum_by-set due_in_row rows u [] [] h in
      let past : due_in_row (row_at rows t) ≡ 0 = ap due_in_row (get_or_past rows t [] k) in
      omega (arith, without, past, in_all)

  pub due_alone : (u c : ℕ) → (u ≡ t → ⊥) → (held_at rows u c).is_due ≡ false
  due_alone u c other = by_place (cases_lt u (length rows))
    where
      by_place : (u < length rows) ⊎ (length rows ≤ u) → (held_at rows u c).is_due ≡ false
      by_place (inl h) = none_due_in (row_at rows u) c (none_in_other u other h (cases_lt t (length rows)))
      by_place (inr h) = none_due_in (row_at rows u) c (ap due_in_row (get_or_past rows u [] h))

-- where none is counted, each row is without a mark
none_in_row : (row : List Bool) → count_in row ≡ 0 → row ≡ replicate (length row) false
none_in_row [] e = refl
none_in_row (m ∷ row) e = by_first m (sym (sum_by-cons (λ (b : Bool). cond b 1 0) m row) ∙ e) (none_in_row row)
  where
    by_first : (b : Bool) → cond b 1 0 + count_in row ≡ 0 → (count_in row ≡ 0 → row ≡ replicate (length row) false) → b ∷ row ≡ replicate (suc (length row)) false
    by_first true f rest = absurd (omega (arith, f))
    by_first false f rest = ap (λ (r : List Bool). false ∷ r) (rest (omega (arith, f)))

pub none_counted_at : (rows : List (List Bool)) (t : ℕ) → count_of rows ≡ 0 → t < length rows → get_or rows t [] ≡ replicate (length (get_or rows t [])) false
none_counted_at rows t none h =
    let without : sum_by count_in (set rows t []) + count_in (get_or rows t []) ≡ sum_by count_in rows + 0 = sum_by-set count_in rows t [] [] h in
    none_in_row (get_or rows t []) (omega (arith, without, none))
