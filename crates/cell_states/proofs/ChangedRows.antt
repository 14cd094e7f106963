-- Rows in which the components that change have other words.
use Rattle.std.proofs.Common.{◌≡◌, ℕ, ◌+◌, ◌-◌, ◌<◌, ◌≤◌, ◌∙◌, ◌⊎◌, inl, inr, sym, ap, refl, arith, Bool, true, false, cond, ◌&&◌, nat_le, nat_lt, List, [], length, map, get_or}
use Rattle.std.specs.List.{range_with_len}
use Rattle.std.proofs.lemmas.Bool.{cases_lt, true≢false, le-leb, lt-ltb, lt-leb, le-ltb, and_right}
use Rattle.std.proofs.lemmas.List.{get_or_past}
use Rattle.std.proofs.lemmas.List.FromFn.{length-map-range_with_len, get_or-map-range_with_len}
use Rattle.change_rows.specs.Marks.{is_in}
use Rattle.change_rows.specs.Rows.{Table as Words, words_at, repeated, IsWhole}
use Rattle.cell_states.specs.Filling.{is_awake}
use Rattle.cell_states.proofs.Coded.{none_beside}

-- a component that is marked is there
pub awake_within : (marks : List Bool) (c : ℕ) → is_awake marks c ≡ true → c < length marks
awake_within marks c e = by_place (cases_lt c (length marks))
  where
    by_place : (c < length marks) ⊎ (length marks ≤ c) → c < length marks
    by_place (inl h) = h
    by_place (inr h) = absurd (true≢false (sym e ∙ get_or_past marks c false h))

-- of the marked components up to one, the others were passed before
pub below : (next cur d : ℕ) (marks : List Bool) → (d ≡ cur → ⊥) → d < cur + 1 → is_awake marks d ≡ true → ((k : ℕ) → next ≤ k → k < cur → is_awake marks k ≡ false) → d < next
below next cur d marks n h awake between = by_place (cases_lt d next)
  where
    by_place : (d < next) ⊎ (next ≤ d) → d < next
    by_place (inl k) = k
    by_place (inr k) = absurd (true≢false (sym awake ∙ between d k (omega (arith, n, h))))

pub reached : (next d : ℕ) (marks : List Bool) → is_awake marks d ≡ true → (next ≤ d → is_awake marks d ≡ false) → d < next
reached next d marks awake none = by_place (cases_lt d next)
  where
    by_place : (d < next) ⊎ (next ≤ d) → d < next
    by_place (inl k) = k
    by_place (inr k) = absurd (true≢false (sym awake ∙ none k))

pub not_from : (marks : List Bool) (from to t c : ℕ) → t < from → (is_awake marks c && (nat_le from t && nat_lt t to)) ≡ false
not_from marks from to t c h = and_right (is_awake marks c) _ (rw (lt-leb from t h) refl)

pub not_to : (marks : List Bool) (from to t c : ℕ) → to ≤ t → (is_awake marks c && (nat_le from t && nat_lt t to)) ≡ false
not_to marks from to t c h = and_right (is_awake marks c) _ (and_right (nat_le from t) _ (le-ltb t to h))

module _ (v v1 : Words) (whole : IsWhole v) (changes : List Bool) (wide : length changes ≡ v.width) where
  -- those that have from one cycle on to before another the words of the cycle before
  module _ (members : List ℕ) (from to : ℕ) (e : v1 ≡ record { width = v.width; rows = repeated v.rows v.width from to members }) (bits : (c : ℕ) → c < length changes → is_in members c ≡ is_awake changes c) where
    abbrev f : ℕ → ℕ → List ℕ
    f t c = cond (is_in members c && (nat_le from t && nat_lt t to)) (words_at v.rows (from - 1) c) (words_at v.rows t c)

    rows_are : v1.rows ≡ map (λ t. map (f t) (range_with_len 0 v.width)) (range_with_len 0 (length v.rows))
    rows_are = ap (λ (w : Words). w.rows) e

    row_is : (t : ℕ) → t < length v.rows → get_or v1.rows t [] ≡ map (f t) (range_with_len 0 v.width)
    row_is t h = ap (λ rows. get_or rows t []) rows_are ∙ get_or-map-range_with_len (λ t. map (f t) (range_with_len 0 v.width)) 0 (length v.rows) t t [] h (omega arith)

    pub cycles_repeated : length v1.rows ≡ length v.rows
    cycles_repeated = ap length rows_are ∙ length-map-range_with_len _ 0 (length v.rows)

    pub lens_repeated : (t : ℕ) → length (get_or v1.rows t []) ≡ length (get_or v.rows t [])
    lens_repeated t = by_cycle (cases_lt t (length v.rows))
      where
        by_cycle : (t < length v.rows) ⊎ (length v.rows ≤ t) → length (get_or v1.rows t []) ≡ length (get_or v.rows t [])
        by_cycle (inl h) = ap length (row_is t h) ∙ length-map-range_with_len _ 0 v.width ∙ sym (whole t h)
        by_cycle (inr h) = ap length (get_or_past v1.rows t [] (omega (arith, h, cycles_repeated))) ∙ sym (ap length (get_or_past v.rows t [] h))

    at_repeated : (t c : ℕ) → t < length v.rows → c < v.width → words_at v1.rows t c ≡ cond (is_awake changes c && (nat_le from t && nat_lt t to)) (words_at v.rows (from - 1) c) (words_at v.rows t c)
    at_repeated t c h k =
        ap (λ row. get_or row c []) (row_is t h) ∙ get_or-map-range_with_len (f t) 0 v.width c c [] k (omega arith)
        ∙ ap (λ b. cond (b && (nat_le from t && nat_lt t to)) (words_at v.rows (from - 1) c) (words_at v.rows t c)) (bits c (omega (arith, k, wide)))

    pub words_repeated : to ≤ length v.rows → (t c : ℕ) → is_awake changes c ≡ true → from ≤ t → t < to → words_at v1.rows t c ≡ words_at v.rows (from - 1) c
    words_repeated within t c awake h k =
        at_repeated t c (omega (arith, k, within)) (omega (arith, awake_within changes c awake, wide))
        ∙ ap (λ b. cond (b && (nat_le from t && nat_lt t to)) (words_at v.rows (from - 1) c) (words_at v.rows t c)) awake
        ∙ ap (λ b. cond (true && (b && nat_lt t to)) (words_at v.rows (from - 1) c) (words_at v.rows t c)) (le-leb from t h)
        ∙ ap (λ b. cond (true && (true && b)) (words_at v.rows (from - 1) c) (words_at v.rows t c)) (lt-ltb t to k)

    pub words_others : (t c : ℕ) → (is_awake changes c && (nat_le from t && nat_lt t to)) ≡ false → words_at v1.rows t c ≡ words_at v.rows t c
    words_others t c none = by_place (cases_lt t (length v.rows)) (cases_lt c v.width)
      where
        by_place : (t < length v.rows) ⊎ (length v.rows ≤ t) → (c < v.width) ⊎ (v.width ≤ c) → words_at v1.rows t c ≡ words_at v.rows t c
        by_place (inl h) (inl k) = at_repeated t c h k ∙ ap (λ b. cond b (words_at v.rows (from - 1) c) (words_at v.rows t c)) none
        by_place (inl h) (inr k) = get_or_past (get_or v1.rows t []) c [] (omega (arith, k, lens_repeated t, whole t h)) ∙ sym (none_beside v whole t c k)
        by_place (inr h) k = ap (λ row. get_or row c []) (get_or_past v1.rows t [] (omega (arith, h, cycles_repeated)) ∙ sym (get_or_past v.rows t [] h))
