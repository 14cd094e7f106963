-- The cells of a draft have its words, and all others have theirs.
use Rattle.std.proofs.Common.{◌≡◌, ◌↔◌, ℕ, ◌+◌, ◌<◌, ◌≤◌, ◌∙◌, ◌⊎◌, inl, inr, sym, ap, refl, arith, Bool, true, false, cond, ◌||◌, nat_eq, Option, None, Some, is_some, List, [], ◌∷◌, ◌++◌, length, take, replicate, get_or}
use Rattle.std.specs.Prelude.{unwrap_or}
use Rattle.std.proofs.Math.ListN.{set, length-set}
use Rattle.std.proofs.lemmas.Bool.{true≢false, cases_lt, cases_eq, eq-eqb, ne_eqb}
use Rattle.std.proofs.lemmas.List.{get_or_past, get_or-set_same, get_or-set_other, get_or-replicate, length-replicate}
use Rattle.std.proofs.lemmas.List.FromFn.{length-map-range_with_len, get_or-map-range_with_len}
use Rattle.change_rows.specs.Cells.{Held, found, end_of, component_at}
use Rattle.change_rows.specs.Rows.{Table as Words, words_at, overlaid, IsWhole}
use Rattle.change_rows.proofs.Finding.{below_end}
use Rattle.change_rows.proofs.Marking.{found_more}
use Rattle.change_rows.proofs.Merging.{pushed_end}
use Rattle.change_rows.proofs.Editing.{pushed_same}
use Rattle.cell_marks.specs.Marked.{union, is_set}
use Rattle.cell_states.specs.Filling.{is_awake}
use Rattle.cell_states.specs.Kept.{AreSameCells}
use Rattle.cell_states.specs.NextWords.{IsDrafted}
use Rattle.cell_states.specs.PutCodes.{AreWordsPut}
use Rattle.cell_states.proofs.Whole.{marks_joined, marks_past, either_false, both_false, awake_within}

-- behind all cells there is none
pub none_behind : (cells : List Held) (c : ℕ) → end_of cells ≤ c → found cells c ≡ None
none_behind [] c h = refl
none_behind (cell ∷ rest) c h =
    let below : (cell.component ≡ c → ⊥) = λ e. absurd (omega (arith, h, e)) in
    let other : nat_eq cell.component c ≡ false = ne_eqb cell.component c below in
    ap (λ b. cond b (Some cell.words) (found rest c)) other ∙ none_behind rest c (omega (arith, h))

module _ (v v1 : Words) (whole : IsWhole v) (t : ℕ) (there : t < length v.rows) (cells : List Held) (within : end_of cells ≤ v.width)
    (e : v1 ≡ record { width = v.width; rows = set v.rows t (overlaid (get_or v.rows t []) cells) }) where
  abbrev row : List (List ℕ)
  row = overlaid (get_or v.rows t []) cells

  rows_are : v1.rows ≡ set v.rows t row
  rows_are = ap (λ (w : Words). w.rows) e

  long : length (get_or v.rows t []) ≡ v.width
  long = whole t there

  here : get_or v1.rows t [] ≡ row
  here = ap (λ rows. get_or rows t []) rows_are ∙ get_or-set_same v.rows t row [] there

  there_other : (u : ℕ) → (u ≡ t → ⊥) → get_or v1.rows u [] ≡ get_or v.rows u []
  there_other u n = ap (λ rows. get_or rows u []) rows_are ∙ get_or-set_other v.rows t u row [] n

  lens_drafted : (u : ℕ) → length (get_or v1.rows u []) ≡ length (get_or v.rows u [])
  lens_drafted u = by_cycle (cases_eq u t)
    where
      by_cycle : (u ≡ t) ⊎ (u ≡ t → ⊥) → length (get_or v1.rows u []) ≡ length (get_or v.rows u [])
      by_cycle (inl p) = ap (λ n. length (get_or v1.rows n [])) p ∙ ap length here ∙ length-map-range_with_len _ 0 (length (get_or v.rows t [])) ∙ ap (λ n. length (get_or v.rows n [])) (sym p)
      by_cycle (inr n) = ap length (there_other u n)

  pub cells_drafted : AreSameCells v v1
  cells_drafted = record {
    width = ap (λ (w : Words). w.width) e;
    cycles = ap length rows_are ∙ length-set v.rows t row;
    lens = lens_drafted;
  }

  pub words_drafted : (c : ℕ) → words_at v1.rows t c ≡ unwrap_or (found cells c) (words_at v.rows t c)
  words_drafted c = by_place (cases_lt c v.width)
    where
      by_place : (c < v.width) ⊎ (v.width ≤ c) → words_at v1.rows t c ≡ unwrap_or (found cells c) (words_at v.rows t c)
      by_place (inl h) = ap (λ r. get_or r c []) here ∙ get_or-map-range_with_len (λ c. unwrap_or (found cells c) (get_or (get_or v.rows t []) c [])) 0 (length (get_or v.rows t [])) c c [] (omega (arith, h, long)) (omega arith)
      by_place (inr h) =
          get_or_past (get_or v1.rows t []) c [] (omega (arith, h, long, lens_drafted t)) ∙ sym (get_or_past (get_or v.rows t []) c [] (omega (arith, h, long)))
          ∙ ap (λ o. unwrap_or o (words_at v.rows t c)) (sym (none_behind cells c (omega (arith, h, within))))

-- a cell of which the draft says what it is to have gets that
pub drafted_is : (rows : List (List (List ℕ))) (cells : List Held) (t c : ℕ) (ws : List ℕ) → IsDrafted rows cells t c ws → unwrap_or (found cells c) (words_at rows t c) ≡ ws
drafted_is rows cells t c ws drafted = by_found (found cells c) refl
  where
    by_found : (o : Option (List ℕ)) → found cells c ≡ o → unwrap_or (found cells c) (words_at rows t c) ≡ ws
    by_found None f = ap (λ o. unwrap_or o (words_at rows t c)) f ∙ drafted.same f
    by_found (Some us) f = ap (λ o. unwrap_or o (words_at rows t c)) f ∙ (drafted.other us f).0

-- the components of a set have their words where these are drafted for them, and none for others
module _ (v v1 : Words) (t : ℕ) (set : List Bool) (ws : ℕ → List ℕ) (cells : List Held) (same : AreSameCells v v1) (here : (c : ℕ) → words_at v1.rows t c ≡ unwrap_or (found cells c) (words_at v.rows t c)) (there : (u c : ℕ) → (u ≡ t → ⊥) → words_at v1.rows u c ≡ words_at v.rows u c)
    (drafted : (c : ℕ) → is_awake set c ≡ true → IsDrafted v.rows cells t c (ws c)) (none : (c : ℕ) → is_awake set c ≡ false → found cells c ≡ None) where
  pub drafted_put : AreWordsPut v v1 t set ws
  drafted_put = record {
    cells = same;
    put = λ c a. here c ∙ drafted_is v.rows cells t c (ws c) (drafted c a);
    others = λ u c a. by_cycle u c a (cases_eq u t);
    other_cycles = there;
  }
    where
      by_cycle : (u c : ℕ) → is_awake set c ≡ false → (u ≡ t) ⊎ (u ≡ t → ⊥) → words_at v1.rows u c ≡ words_at v.rows u c
      by_cycle u c a (inl p) = ap (λ n. words_at v1.rows n c) p ∙ here c ∙ ap (λ o. unwrap_or o (words_at v.rows t c)) (none c a) ∙ ap (λ n. words_at v.rows n c) (sym p)
      by_cycle u c a (inr n) = there u c n

-- the draft has a cell just where it has other words
pub found_other : (rows : List (List (List ℕ))) (cells : List Held) (t c : ℕ) (ws : List ℕ) → IsDrafted rows cells t c ws → (is_some (found cells c) ≡ false) ↔ (words_at rows t c ≡ ws)
found_other rows cells t c ws drafted = by_found (found cells c) refl
  where
    by_found : (o : Option (List ℕ)) → found cells c ≡ o → (is_some (found cells c) ≡ false) ↔ (words_at rows t c ≡ ws)
    by_found None f = (λ e. drafted.same f, λ e. ap is_some f)
    by_found (Some us) f = (λ e. absurd (true≢false (sym (ap is_some f) ∙ e)), λ e. absurd ((drafted.other us f).1 e))

none_some : {X : Type 0} (x : X) → None ≡ Some x → ⊥
none_some x e = true≢false (sym (ap is_some e))

some_same : {X : Type 0} (x y : X) → Some x ≡ Some y → x ≡ y
some_same x y e = cc

-- a cell that has the words already is drafted where the draft has none of it
pub drafted_none : (rows : List (List (List ℕ))) (draft : List Held) (t c : ℕ) (ws : List ℕ) → end_of draft ≤ c → words_at rows t c ≡ ws → IsDrafted rows draft t c ws
drafted_none rows draft t c ws after e = let none = none_behind draft c after in record {
  same = λ n. e;
  other = λ us some. absurd (none_some us (sym none ∙ some));
}

-- a cell more, behind all others
module _ (rows : List (List (List ℕ))) (draft draft1 : List Held) (t c : ℕ) (ws : List ℕ) (after : end_of draft ≤ c) (pushed : draft1 ≡ draft ++ record { component = c; words = ws } ∷ []) where
  pub drafted_end : end_of draft1 ≤ c + 1
  drafted_end = omega (arith, pushed_end draft draft1 c ws pushed, after)

  pub drafted_more : (words_at rows t c ≡ ws → ⊥) → IsDrafted rows draft1 t c ws
  drafted_more differs = let here = pushed_same draft draft1 c ws pushed after in record {
    same = λ none. absurd (none_some ws (sym none ∙ here));
    other = λ us some. (some_same us ws (sym some ∙ here), differs);
  }

or_true : (b : Bool) → (b || true) ≡ true
or_true true = refl
or_true false = refl

or_false : (b : Bool) → (b || false) ≡ b
or_false true = refl
or_false false = refl

-- marks of one component more
pub marked_more : (marks0 marks : List Bool) (draft : List Held) (i k : ℕ) → i < length draft → k ≡ component_at draft i → end_of draft ≤ length marks → ((c : ℕ) → is_awake marks c ≡ (is_awake marks0 c || is_some (found (take i draft) c)))
    → (c : ℕ) → is_awake (set marks k true) c ≡ (is_awake marks0 c || is_some (found (take (i + 1) draft) c))
marked_more marks0 marks draft i k h is within before c = by_place (cases_eq c k)
  where
    more : is_some (found (take (i + 1) draft) c) ≡ (is_some (found (take i draft) c) || nat_eq k c)
    more = found_more draft i k c h is

    by_place : (c ≡ k) ⊎ (c ≡ k → ⊥) → is_awake (set marks k true) c ≡ (is_awake marks0 c || is_some (found (take (i + 1) draft) c))
    by_place (inl e) =
        ap (is_awake (set marks k true)) e ∙ get_or-set_same marks k true false (omega (arith, below_end draft i h, is, within))
        ∙ sym (ap (λ b. is_awake marks0 c || b) (more ∙ ap (λ b. is_some (found (take i draft) c) || b) (eq-eqb k c (sym e)) ∙ or_true (is_some (found (take i draft) c))) ∙ or_true (is_awake marks0 c))
    by_place (inr n) =
        get_or-set_other marks k c true false n ∙ before c
        ∙ sym (ap (λ b. is_awake marks0 c || b) (more ∙ ap (λ b. is_some (found (take i draft) c) || b) (ne_eqb k c (λ q. n (sym q))) ∙ or_false (is_some (found (take i draft) c))))

-- marks of a draft's components where there were none, and marks to which they were joined
module _ (worded : List Bool) (n : ℕ) (draft : List Held) (marks : (c : ℕ) → is_awake worded c ≡ (is_awake (replicate n false) c || is_some (found draft c))) (d : ℕ) where
  pub worded_is : is_awake worded d ≡ is_some (found draft d)
  worded_is = marks d ∙ ap (λ b. b || is_some (found draft d)) (none_there (cases_lt d n))
    where
      none_there : (d < n) ⊎ (n ≤ d) → is_awake (replicate n false) d ≡ false
      none_there (inl h) = get_or-replicate n d false false h
      none_there (inr h) = let long : length (replicate n false) ≡ n = length-replicate n false in get_or_past (replicate n false) d false (omega (arith, h, long))

  -- a cell whose component isn't marked has what it had
  pub unworded : (was : List ℕ) → is_awake worded d ≡ false → unwrap_or (found draft d) was ≡ was
  unworded was e = by_found (found draft d) (sym worded_is ∙ e)
    where
      by_found : (o : Option (List ℕ)) → is_some o ≡ false → unwrap_or o was ≡ was
      by_found None f = refl
      by_found (Some ws) f = absurd (true≢false f)

  module _ (old new : List Bool) (joined : new ≡ union old worded) where
    -- a mark tells what was marked before, or whether the words differ
    pub drafted_tells : (rows : List (List (List ℕ))) (t : ℕ) (ws : List ℕ) (M : Type 0) → d < length old → IsDrafted rows draft t d ws → (is_awake old d ≡ false) ↔ M → (is_awake new d ≡ false) ↔ ((words_at rows t d ≡ ws) × M)
    drafted_tells rows t ws M h drafted m =
        let is : is_awake new d ≡ (is_awake old d || is_awake worded d) = ap (λ m. is_awake m d) joined ∙ marks_joined old worded d h in
        let w = found_other rows draft t d ws drafted in (
          λ e. (let q = either_false (is_awake old d) (is_awake worded d) (sym is ∙ e) in (w.0 (sym worded_is ∙ q.1), m.0 q.0)),
          λ q. is ∙ both_false (is_awake old d) (is_awake worded d) (m.1 q.1) (worded_is ∙ w.1 q.0),
        )

    pub drafted_unmarked : is_awake old d ≡ false → found draft d ≡ None → is_awake new d ≡ false
    drafted_unmarked e none = by_place (cases_lt d (length old))
      where
        by_place : (d < length old) ⊎ (length old ≤ d) → is_awake new d ≡ false
        by_place (inl h) = ap (λ m. is_awake m d) joined ∙ marks_joined old worded d h ∙ both_false (is_awake old d) (is_awake worded d) e (worded_is ∙ ap is_some none)
        by_place (inr h) = ap (λ m. is_awake m d) joined ∙ marks_past old worded d h

    -- what is marked for its words is marked
    pub drafted_among : length worded ≡ length old → is_awake worded d ≡ true → is_awake new d ≡ true
    drafted_among wide e =
        let h : d < length old = omega (arith, awake_within worded d e, wide) in
        ap (λ m. is_awake m d) joined ∙ marks_joined old worded d h ∙ ap (λ b. is_awake old d || b) e ∙ or_true (is_awake old d)

-- joined marks are as many
pub long_union : (old new other : List Bool) → new ≡ union old other → length new ≡ length old
long_union old new other joined = ap length joined ∙ length-map-range_with_len (λ c. is_set old c || is_set other c) 0 (length old)

pub long_cleared : (n : ℕ) → length (replicate n false) ≡ n
long_cleared n = length-replicate n false
