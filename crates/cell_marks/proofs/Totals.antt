-- How many cells are marked.
use Rattle.std.proofs.Common.{◌≡◌, ℕ, zero, suc, ◌+◌, ◌*◌, ◌^◌, ◌<◌, ◌≤◌, ◌∙◌, ap, refl, arith, Bool, cond, take, ◌⊎◌, inl, inr, List, [], ◌∷◌, ◌++◌, length, replicate, length-append, ◌-◌}
use Rattle.std.proofs.Math.ListN.{set, length-set}
use Rattle.std.proofs.Math.Nat.{mul-le-mul_left}
use Rattle.std.proofs.lemmas.Bool.{cases_eq, cases_lt}
use Rattle.std.proofs.lemmas.List.{get_or-set_same, get_or-set_other, get_or-replicate, get_or-append_right, get_or_append_left, length-replicate, take_all}
use Rattle.std.proofs.lemmas.List.Sums.{sum_by-set, sum_by-cons, sum_by-append, sum_by-take-le, count_by-le-length}
use Rattle.cell_marks.proofs.Bits.{count_one}
use Rattle.cell_marks.specs.Marked.{count_in, count_of, row_at, IsMarked}

one_more : (n w : ℕ) → suc n * w ≡ w + n * w
one_more n w = omega arith

count_rows : (rows : List (List Bool)) (w : ℕ) → ((t : ℕ) → t < length rows → length (row_at rows t) ≡ w) → count_of rows ≤ length rows * w
count_rows [] w h = omega arith
count_rows (r ∷ rows) w h =
    let one : count_in r ≤ length r = count_by-le-length (λ b. b) r in
    let len : length r ≡ w = h 0 (omega arith) in
    let rest : count_of rows ≤ length rows * w = count_rows rows w (λ t k. h (suc t) (omega arith)) in
    let sum : count_of (r ∷ rows) ≡ count_in r + count_of rows = sum_by-cons count_in r rows in
    omega (arith, one_more (length rows) w)

pub total_small : (w : ℕ) (rows : List (List Bool)) (total : ℕ) → IsMarked w rows total → w < 2 ^ 32 → total ≤ 4294967295 * 4294967295
total_small w rows total m h =
    let most : count_of rows ≤ length rows * w = count_rows rows w m.whole in
    let wide : length rows * w ≤ length rows * 4294967295 = mul-le-mul_left (length rows) (let k : w ≤ 4294967295 = omega arith in k) in
    omega (arith, m.counted, m.short)

pub marked_set : (w : ℕ) (rows : List (List Bool)) (total t : ℕ) (r : List Bool) (total1 : ℕ) → IsMarked w rows total → t < length rows → length r ≡ w → total1 + count_in (row_at rows t) ≡ total + count_in r → IsMarked w (set rows t r) total1
marked_set w rows total t r total1 m there len e = record {
  whole = λ u h. each u h (cases_eq u t);
  short = omega (arith, m.short, length-set rows t r);
  counted = omega (arith, sum_by-set count_in rows t r [] there, m.counted);
}
  where
    each : (u : ℕ) → u < length (set rows t r) → (u ≡ t) ⊎ (u ≡ t → ⊥) → length (row_at (set rows t r) u) ≡ w
    each u h (inl k) = ap (λ v. length (row_at (set rows t r) v)) k ∙ ap length (get_or-set_same rows t r [] there) ∙ len
    each u h (inr k) = ap length (get_or-set_other rows t u r [] k) ∙ m.whole u (omega (arith, length-set rows t r))

count_append : (xs ys : List (List Bool)) → count_of (xs ++ ys) ≡ count_of xs + count_of ys
count_append xs ys = sum_by-append count_in xs ys

count_alike : (m w : ℕ) (b : Bool) → count_of (replicate m (replicate w b)) ≡ m * cond b w 0
count_alike zero w b = omega arith
count_alike (suc m) w b =
    let more : count_of (replicate (suc m) (replicate w b)) ≡ count_in (replicate w b) + count_of (replicate m (replicate w b)) = sum_by-cons count_in (replicate w b) (replicate m (replicate w b)) in
    omega (arith, count_alike m w b, count_one w b, one_more m (cond b w 0))

-- the rows up to the last one, or past it
pub count_all_taken : (rows : List (List Bool)) (n : ℕ) → length rows ≤ n → count_of (take n rows) ≡ count_of rows
count_all_taken rows n h = ap count_of (take_all n rows h)

-- where nothing is marked, nothing is marked in the first rows
pub count_taken_none : (rows : List (List Bool)) (n : ℕ) → count_of rows ≡ 0 → count_of (take n rows) ≡ 0
count_taken_none rows n h = omega (arith, sum_by-take-le count_in rows n)

-- rows that are marked alike are added
pub marked_grown : (w : ℕ) (rows : List (List Bool)) (total m : ℕ) (b : Bool) → IsMarked w rows total → length rows + m < 2 ^ 32 → IsMarked w (rows ++ replicate m (replicate w b)) (total + m * cond b w 0)
marked_grown w rows total m b mk fits = record {
  whole = λ t h. each t h (cases_lt t (length rows));
  short = omega (arith, lens);
  counted = omega (arith, mk.counted, count_append rows (replicate m (replicate w b)), count_alike m w b);
}
  where
    lens : length (rows ++ replicate m (replicate w b)) ≡ length rows + m
    lens = omega (arith, length-append rows (replicate m (replicate w b)), length-replicate m (replicate w b))

    each : (t : ℕ) → t < length (rows ++ replicate m (replicate w b)) → (t < length rows) ⊎ (length rows ≤ t) → length (row_at (rows ++ replicate m (replicate w b)) t) ≡ w
    each t h (inl k) = ap length (get_or_append_left rows (replicate m (replicate w b)) [] t k) ∙ mk.whole t k
    each t h (inr k) =
        ap length (get_or-append_right rows (replicate m (replicate w b)) (length rows) t [] refl k ∙ get_or-replicate m (t - length rows) (replicate w b) [] (omega (arith, lens)))
        ∙ length-replicate w b
