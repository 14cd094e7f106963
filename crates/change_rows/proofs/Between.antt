-- The cells of components from one on and before another one.
use Rattle.std.proofs.Common.{◌≡◌, ℕ, ◌+◌, ◌-◌, ◌<◌, ◌≤◌, ◌∙◌, ◌⊎◌, inl, inr, sym, ap, arith, Option, None, List, ◌++◌, length, take, slice_range}
use Rattle.std.specs.Option.{option_or}
use Rattle.std.proofs.lemmas.Bool.{cases_lt}
use Rattle.std.proofs.lemmas.List.{get_or-take, length-take-le, take_all}
use Rattle.change_rows.specs.Cells.{Held, no_cell, found, end_of, component_at, IsAscending, IsSplit}
use Rattle.change_rows.proofs.Finding.{below_end, found_append, found_past, end_append}
use Rattle.change_rows.proofs.Merging.{or_none, taken_end}
use Rattle.change_rows.proofs.Laying.{slice_found, slice_end, slice_high}

-- the cells before a place are those below a component, where the two beside it say so
pub split_at : (cells : List Held) (n c : ℕ) → IsAscending cells → n ≤ length cells → (0 < n → component_at cells (n - 1) < c) → (n < length cells → c ≤ component_at cells n) → IsSplit cells c n
split_at cells n c asc within low high = record {
  within = within;
  below = by_place (cases_lt 0 n);
  above = high;
}
  where
    by_place : (0 < n) ⊎ (n ≤ 0) → end_of (take n cells) ≤ c
    by_place (inl p) =
        let there : n - 1 < length cells = omega (arith, within, p) in
        let e : n - 1 + 1 ≡ n = omega (arith, p) in
        omega (arith, taken_end cells (n - 1) there, asc (n - 1) there, low p, ap (λ (k : ℕ). end_of (take k cells)) e)
    by_place (inr p) =
        let e : n ≡ 0 = omega (arith, p) in
        omega (arith, ap (λ (k : ℕ). end_of (take k cells)) e)

module _ (cells : List Held) (low high i j : ℕ) (asc : IsAscending cells) (order : low ≤ high) (begin : IsSplit cells low i) (end : IsSplit cells high j) where
  pub split_order : i ≤ j
  split_order = by_place (cases_lt j i)
    where
      by_place : (j < i) ⊎ (i ≤ j) → i ≤ j
      by_place (inr l) = l
      by_place (inl l) =
          let same : component_at (take i cells) j ≡ component_at cells j = ap (λ (x : Held). x.component) (get_or-take i cells j no_cell l) in
          let less : component_at (take i cells) j < end_of (take i cells) = below_end (take i cells) j (omega (arith, l, length-take-le i cells begin.within)) in
          absurd (omega (arith, same, less, begin.below, order, end.above (omega (arith, l, begin.within))))

  abbrev part : List Held
  part = slice_range cells i j

  none_before : (d : ℕ) → d < low → found part d ≡ None
  none_before = slice_high cells i j split_order asc end.within low begin.above

  pub part_end : end_of part ≤ high
  part_end = omega (arith, slice_end cells i j split_order, end.below)

  none_behind : (d : ℕ) → high ≤ d → found part d ≡ None
  none_behind d h = found_past part d (omega (arith, part_end, h))

  rest_none : (d : ℕ) → d < high → found (slice_range cells j (length cells)) d ≡ None
  rest_none = slice_high cells j (length cells) end.within asc (omega arith) high end.above

  pub part_between : (d : ℕ) → low ≤ d → d < high → found part d ≡ found cells d
  part_between d l h =
      sym (ap (λ (o : Option (List ℕ)). option_or o (found part d)) (found_past (take i cells) d (omega (arith, begin.below, l))))
      ∙ slice_found cells i j split_order d
      ∙ sym (or_none (found (take j cells) d))
      ∙ sym (ap (option_or (found (take j cells) d)) (rest_none d h))
      ∙ slice_found cells j (length cells) end.within d
      ∙ ap (λ (v : List Held). found v d) (take_all (length cells) cells (omega arith))

  pub part_outside : (d : ℕ) → (low ≤ d → d < high → ⊥) → found part d ≡ None
  part_outside d n = by_place (cases_lt d low) (cases_lt d high)
    where
      by_place : (d < low) ⊎ (low ≤ d) → (d < high) ⊎ (high ≤ d) → found part d ≡ None
      by_place (inl l) _ = none_before d l
      by_place (inr l) (inl h) = absurd (n l h)
      by_place (inr l) (inr h) = none_behind d h

  -- they are appended to others that are all below them
  module _ (out out1 : List Held) (above : end_of out ≤ low) (ran : out1 ≡ out ++ part) where
    appended : (d : ℕ) → found out1 d ≡ option_or (found out d) (found part d)
    appended d = ap (λ (v : List Held). found v d) ran ∙ found_append out part d

    pub appended_between : (d : ℕ) → low ≤ d → d < high → found out1 d ≡ found cells d
    appended_between d l h = appended d ∙ ap (λ (o : Option (List ℕ)). option_or o (found part d)) (found_past out d (omega (arith, above, l))) ∙ part_between d l h

    pub appended_others : (d : ℕ) → (low ≤ d → d < high → ⊥) → found out1 d ≡ found out d
    appended_others d n = appended d ∙ ap (option_or (found out d)) (part_outside d n) ∙ or_none (found out d)

    pub appended_end : end_of out1 ≤ high
    appended_end = omega (arith, ap end_of ran, end_append out part, part_end, above, order)
