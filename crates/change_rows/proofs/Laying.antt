-- Cells over those of a row, of which all between two are taken at once.
use Rattle.std.proofs.Common.{◌≡◌, ℕ, ◌+◌, ◌-◌, ◌<◌, ◌≤◌, ◌∙◌, ◌⊎◌, inl, inr, sym, ap, refl, subst, arith, max, cond, eqb, unwrap_or, Option, Some, None, List, [], ◌∷◌, ◌++◌, length, take, drop, get_or, slice_range}
use Rattle.std.specs.Option.{option_or}
use Rattle.std.proofs.lemmas.Bool.{cases_eq, cases_lt}
use Rattle.std.proofs.lemmas.List.{get_or-take, get_or-drop, length-take, length-drop}
use lib.Seq.{take-add}
use Rattle.change_rows.specs.Cells.{Held, no_cell, found, end_of, component_at, IsAscending, IsSplit}
use Rattle.change_rows.proofs.Finding.{ascends, found_append, found_at, found_none, found_past, end_append}
use Rattle.change_rows.proofs.Merging.{or_none, single_same, single_other, taken_found, taken_end, pushed_end, found_gap}
use Rattle.change_rows.proofs.Editing.{pushed_same, pushed_other, kept_more}

module _ (cells : List Held) (from to : ℕ) (order : from ≤ to) where
  pub slice_joins : take from cells ++ slice_range cells from to ≡ take to cells
  slice_joins = sym (take-add from (to - from) cells) ∙ ap (λ (k : ℕ). take k cells) (omega (arith, order))

  pub slice_found : (c : ℕ) → option_or (found (take from cells) c) (found (slice_range cells from to) c) ≡ found (take to cells) c
  slice_found c = sym (found_append (take from cells) (slice_range cells from to) c) ∙ ap (λ (v : List Held). found v c) slice_joins

  pub slice_end : max (end_of (take from cells)) (end_of (slice_range cells from to)) ≡ end_of (take to cells)
  slice_end = sym (end_append (take from cells) (slice_range cells from to)) ∙ ap end_of slice_joins

  -- nothing below the first cell of a slice is in it
  pub slice_high : IsAscending cells → to ≤ length cells → (e : ℕ) → (from < length cells → e ≤ component_at cells from) → (d : ℕ) → d < e → found (slice_range cells from to) d ≡ None
  slice_high asc l e high d h = found_none (slice_range cells from to) d (λ k m q. absurd (each k m q))
    where
      each : (k : ℕ) → k < length (slice_range cells from to) → component_at (slice_range cells from to) k ≡ d → ⊥
      each k m q = by_place (cases_eq k 0)
        where
          inside : k < to - from
          inside = omega (arith, m, length-take (to - from) (drop from cells), length-drop from cells)

          same : component_at (slice_range cells from to) k ≡ component_at cells (from + k)
          same = ap (λ (x : Held). x.component) (get_or-take (to - from) (drop from cells) k no_cell inside ∙ get_or-drop from cells k no_cell)

          first : e ≤ component_at cells from
          first = high (omega (arith, inside, l))

          by_place : (k ≡ 0) ⊎ (k ≡ 0 → ⊥) → ⊥
          by_place (inl z) = let here : from + k ≡ from = omega (arith, z) in omega (arith, q, same, first, h, ap (component_at cells) here)
          by_place (inr n) =
              let step : component_at cells from < component_at cells (from + k) = ascends cells asc from (from + k) (omega (arith, n)) (omega (arith, inside, l)) in
              omega (arith, q, same, first, h, step)

pub some_low : (xs : List Held) (d : ℕ) (w : List ℕ) → found xs d ≡ Some w → d < end_of xs
some_low xs d w e = by_place (cases_lt d (end_of xs))
  where
    by_place : (d < end_of xs) ⊎ (end_of xs ≤ d) → d < end_of xs
    by_place (inl l) = l
    by_place (inr l) = let p : Some w ≡ None = sym e ∙ found_past xs d l in cc

-- the first cells of a row are laid under others, `front`; then a run of it is taken
module _ (row front out mid : List Held) (from place : ℕ) (asc : IsAscending row)
    (order : from ≤ place)
    (there : place ≤ length row)
    (high : from < length row → end_of front ≤ component_at row from)
    (ran : mid ≡ out ++ slice_range row from place) where
  pub ran_found : (d : ℕ) → found mid d ≡ option_or (found out d) (found (slice_range row from place) d)
  ran_found d = ap (λ (v : List Held). found v d) ran ∙ found_append out (slice_range row from place) d

  pub ran_end : end_of mid ≡ max (end_of out) (end_of (slice_range row from place))
  ran_end = ap end_of ran ∙ end_append out (slice_range row from place)

  pub ran_below : (c : ℕ) → end_of out ≤ c → end_of (take place row) ≤ c → end_of mid ≤ c
  ran_below c low under = omega (arith, ran_end, slice_end row from place order, low, under)

  none_low : (d : ℕ) → d < end_of front → found (slice_range row from place) d ≡ None
  none_low = slice_high row from place order asc there (end_of front) high

  pub ran_low : (d : ℕ) → d < end_of front → found mid d ≡ found out d
  ran_low d l = ran_found d ∙ ap (option_or (found out d)) (none_low d l) ∙ or_none (found out d)

  pub ran_others : (d : ℕ) → found out d ≡ found (take from row) d → found mid d ≡ found (take place row) d
  ran_others d e = ran_found d ∙ ap (λ (o : Option (List ℕ)). option_or o (found (slice_range row from place) d)) e ∙ slice_found row from place order d

  pub ran_both : (d : ℕ) → found out d ≡ option_or (found (take from row) d) (found front d) → found mid d ≡ option_or (found (take place row) d) (found front d)
  ran_both d e = by_place (cases_lt d (end_of front))
    where
      by_place : (d < end_of front) ⊎ (end_of front ≤ d) → found mid d ≡ option_or (found (take place row) d) (found front d)
      by_place (inl l) =
          ran_low d l ∙ e
          ∙ ap (λ (o : Option (List ℕ)). option_or o (found front d)) (sym (or_none (found (take from row) d)) ∙ ap (option_or (found (take from row) d)) (sym (none_low d l)) ∙ slice_found row from place order d)
      by_place (inr l) =
          let none : found front d ≡ None = found_past front d l in
          ran_others d (e ∙ ap (option_or (found (take from row) d)) none ∙ or_none (found (take from row) d))
          ∙ sym (ap (option_or (found (take place row) d)) none ∙ or_none (found (take place row) d))

-- one cell of a list more
pub last_found : (draft : List Held) (i : ℕ) → IsAscending draft → i < length draft → found (take (i + 1) draft) (component_at draft i) ≡ Some (get_or draft i no_cell).words
last_found draft i asc h =
    taken_found draft i (component_at draft i) h
    ∙ ap (λ (o : Option (List ℕ)). option_or o (cond (eqb (component_at draft i) (component_at draft i)) (Some (get_or draft i no_cell).words) None)) (found_past (take i draft) (component_at draft i) (asc i h))
    ∙ single_same draft i (component_at draft i) refl

pub rest_found : (draft : List Held) (i d : ℕ) → i < length draft → (d ≡ component_at draft i → ⊥) → found (take (i + 1) draft) d ≡ found (take i draft) d
rest_found draft i d h n = taken_found draft i d h ∙ ap (option_or (found (take i draft) d)) (single_other draft i d (λ e. n (sym e))) ∙ or_none (found (take i draft) d)

-- what is found for a component whose place is known
pub split_here : (cells : List Held) (c n : ℕ) → IsAscending cells → IsSplit cells c n → n < length cells → component_at cells n ≡ c → found cells c ≡ Some (get_or cells n no_cell).words
split_here cells c n asc split h e = ap (found cells) (sym e) ∙ found_at cells n asc h

pub split_none : (cells : List Held) (c n : ℕ) → IsAscending cells → IsSplit cells c n → (n < length cells → component_at cells n ≡ c → ⊥) → found cells c ≡ None
split_none cells c n asc split other = found_gap cells n c asc split.within split.below (λ h. omega (arith, split.above h, other h))

pub first_here : (cells : List Held) (c n : ℕ) → IsSplit cells c n → n < length cells → component_at cells n ≡ c → found (take (n + 1) cells) c ≡ Some (get_or cells n no_cell).words
first_here cells c n split h e =
    taken_found cells n c h
    ∙ ap (λ (o : Option (List ℕ)). option_or o (cond (eqb (component_at cells n) c) (Some (get_or cells n no_cell).words) None)) (found_past (take n cells) c split.below)
    ∙ single_same cells n c e

pub some_or : (o : Option (List ℕ)) (w : List ℕ) → Some (unwrap_or o w) ≡ option_or o (Some w)
some_or None w = refl
some_or (Some x) w = refl

-- a step: the run of `row` below the next component of `under`, and the cell of that component
module _ (row under out mid out1 : List Held) (from j c place next : ℕ) (words words1 : List ℕ) (asc : IsAscending row) (asc_under : IsAscending under)
    (order : from ≤ place)
    (split : IsSplit row c place)
    (h : j < length under)
    (is : c ≡ component_at under j)
    (held : words ≡ (get_or under j no_cell).words)
    (found_is : (d : ℕ) → found out d ≡ option_or (found (take from row) d) (found (take j under) d))
    (end : end_of out ≤ end_of (take j under))
    (high : from < length row → end_of (take j under) ≤ component_at row from)
    (ran : mid ≡ out ++ slice_range row from place)
    (pushed : out1 ≡ mid ++ record { component = c; words = words1 } ∷ [])
    (kept : words1 ≡ unwrap_or (found row c) words)
    (next_here : found (take next row) c ≡ found row c)
    (next_others : (d : ℕ) → (d ≡ c → ⊥) → found (take next row) d ≡ found (take place row) d) where
  mid_end : end_of mid ≤ c
  mid_end = ran_below row (take j under) out mid from place asc order split.within high ran c (omega (arith, end, asc_under j h, is)) split.below

  pub united_found : (d : ℕ) → found out1 d ≡ option_or (found (take next row) d) (found (take (j + 1) under) d)
  united_found d = by_place (cases_eq d c)
    where
      by_place : (d ≡ c) ⊎ (d ≡ c → ⊥) → found out1 d ≡ option_or (found (take next row) d) (found (take (j + 1) under) d)
      by_place (inl e) =
          ap (found out1) e ∙ pushed_same mid out1 c words1 pushed mid_end ∙ ap Some (kept ∙ ap (unwrap_or (found row c)) held)
          ∙ some_or (found row c) (get_or under j no_cell).words
          ∙ sym (
          ap (λ (k : ℕ). option_or (found (take next row) k) (found (take (j + 1) under) k)) e
          ∙ ap (λ (o : Option (List ℕ)). option_or o (found (take (j + 1) under) c)) next_here
          ∙ ap (λ (k : ℕ). option_or (found row c) (found (take (j + 1) under) k)) is
          ∙ ap (option_or (found row c)) (last_found under j asc_under h)
          )
      by_place (inr n) =
          pushed_other mid out1 c words1 pushed d n
          ∙ ran_both row (take j under) out mid from place asc order split.within high ran d (found_is d)
          ∙ sym (
          ap (λ (o : Option (List ℕ)). option_or o (found (take (j + 1) under) d)) (next_others d n)
          ∙ ap (option_or (found (take place row) d)) (rest_found under j d h (λ e. n (e ∙ sym is)))
          )

  pub united_end : end_of out1 ≤ end_of (take (j + 1) under)
  united_end = omega (arith, pushed_end mid out1 c words1 pushed, mid_end, taken_end under j h, is)

-- a step: the run of `row` below the next component of a draft, and what becomes of the draft's cell
module _ (row draft out mid out1 : List Held) (from i c place next : ℕ) (asc : IsAscending row) (asc_draft : IsAscending draft)
    (order : from ≤ place)
    (there : place ≤ length row)
    (h : i < length draft)
    (is : c ≡ component_at draft i)
    (high : from < length row → end_of (take i draft) ≤ component_at row from)
    (ran : mid ≡ out ++ slice_range row from place)
    (others : (d : ℕ) → (d ≡ c → ⊥) → found out1 d ≡ found mid d)
    (next_others : (d : ℕ) → (d ≡ c → ⊥) → found (take next row) d ≡ found (take place row) d) where
  pub laid_kept : (Good : ℕ → List ℕ → Option (List ℕ) → Type 0) → ((d : ℕ) (w : List ℕ) → found (take i draft) d ≡ Some w → Good d w (found out d)) → Good (component_at draft i) (get_or draft i no_cell).words (found out1 (component_at draft i)) → (d : ℕ) (w : List ℕ) → found (take (i + 1) draft) d ≡ Some w → Good d w (found out1 d)
  laid_kept Good before now =
      kept_more draft mid out1 i asc_draft h (λ d n. others d (λ e. n (e ∙ is))) Good
      (λ d w e. subst (Good d w) (sym (ran_low row (take i draft) out mid from place asc order there high ran d (some_low (take i draft) d w e))) (before d w e)) now

  pub laid_others : ((d : ℕ) → found (take i draft) d ≡ None → found out d ≡ found (take from row) d) → (d : ℕ) → found (take (i + 1) draft) d ≡ None → found out1 d ≡ found (take next row) d
  laid_others before d e = by_place (cases_eq d (component_at draft i))
    where
      by_place : (d ≡ component_at draft i) ⊎ (d ≡ component_at draft i → ⊥) → found out1 d ≡ found (take next row) d
      by_place (inl q) = let p : Some (get_or draft i no_cell).words ≡ None = sym (last_found draft i asc_draft h) ∙ ap (found (take (i + 1) draft)) (sym q) ∙ e in cc
      by_place (inr n) =
          others d (λ q. n (q ∙ is))
          ∙ ran_others row (take i draft) out mid from place asc order there high ran d (before d (sym (rest_found draft i d h n) ∙ e))
          ∙ sym (next_others d (λ q. n (q ∙ is)))
