-- A row of changes is put.
use Rattle.std.proofs.Common.{◌≡◌, ℕ, ◌+◌, ◌*◌, ◌<◌, ◌≤◌, ◌∙◌, ◌⊎◌, inl, inr, sym, ap, refl, subst, arith, Bool, true, false, cond, eqb, is_some, unwrap_or, Option, Some, None, List, [], ◌∷◌, ◌++◌, length, take, get_or}
use Rattle.std.specs.Option.{option_or}
use Rattle.std.proofs.Math.ListN.{set, length-set}
use Rattle.std.proofs.lemmas.Bool.{cases_eq, eq-eqb, ne_eqb, false≢true}
use Rattle.std.proofs.lemmas.List.{get_or-set_same, get_or-set_other}
use Rattle.change_rows.specs.Cells.{Held, no_cell, found, end_of, component_at, IsAscending}
use Rattle.change_rows.specs.Marks.{is_marked}
use Rattle.change_rows.specs.Changes.{row_at, begins_at, IsChanges}
use Rattle.change_rows.proofs.Finding.{found_past, found_append}
use Rattle.change_rows.proofs.Merging.{taken_found, taken_end}

-- a row is another one
module _ (width : ℕ) (rows : List (List Held)) (marks marks1 : List (List ℕ)) (seam seam1 : List Held) (at at1 t : ℕ) (row : List Held)
    (s : IsChanges width rows marks seam at)
    (here : t < length rows)
    (wide : end_of row ≤ width)
    (len : length marks1 ≡ length marks)
    (tall : (w : ℕ) → length (get_or marks1 w []) ≡ length (get_or marks w []))
    (marked : (u c : ℕ) → c < 64 * length marks → is_marked marks1 u c ≡ cond (eqb u t) (is_some (found row c)) (is_marked marks u c))
    (seam_wide : end_of seam1 ≤ width)
    (there : (at1 < length rows → ⊥) → seam1 ≡ []) where
  row_is : (u : ℕ) → (u ≡ t) ⊎ (u ≡ t → ⊥) → end_of (row_at (set rows t row) u) ≤ width
  row_is u (inl e) = subst (λ (r : List Held). end_of r ≤ width) (sym (ap (row_at (set rows t row)) e ∙ get_or-set_same rows t row [] here)) wide
  row_is u (inr n) = subst (λ (r : List Held). end_of r ≤ width) (sym (get_or-set_other rows t u row [] n)) (s.wide u)

  mark_is : (u c : ℕ) → (u ≡ t) ⊎ (u ≡ t → ⊥) → c < width → is_marked marks1 u c ≡ is_some (found (row_at (set rows t row) u) c)
  mark_is u c (inl e) h =
      marked u c (omega (arith, h, s.room))
      ∙ ap (λ (b : Bool). cond b (is_some (found row c)) (is_marked marks u c)) (eq-eqb u t e)
      ∙ sym (ap (λ (r : List Held). is_some (found r c)) (ap (row_at (set rows t row)) e ∙ get_or-set_same rows t row [] here))
  mark_is u c (inr n) h =
      marked u c (omega (arith, h, s.room))
      ∙ ap (λ (b : Bool). cond b (is_some (found row c)) (is_marked marks u c)) (ne_eqb u t n)
      ∙ s.marked u c h
      ∙ sym (ap (λ (r : List Held). is_some (found r c)) (get_or-set_other rows t u row [] n))

  pub changed : IsChanges width (set rows t row) marks1 seam1 at1
  changed = record {
    wide = λ u. row_is u (cases_eq u t);
    seam_wide = seam_wide;
    seam_there = λ n. there (λ l. n (omega (arith, l, length-set rows t row)));
    room = omega (arith, s.room, len);
    tall = λ w h. omega (arith, tall w, s.tall w (omega (arith, h, len)), length-set rows t row);
    marked = λ u c h. mark_is u c (cases_eq u t) h;
    short = omega (arith, s.short, length-set rows t row);
  }

pub or_none : (o : Option (List ℕ)) → option_or o None ≡ o
or_none None = refl
or_none (Some x) = refl

cond_same : (b : Bool) (o : Option (List ℕ)) → cond b o o ≡ o
cond_same true o = refl
cond_same false o = refl

-- with no seam a row's cells are all that begins there
pub no_seam : (rows : List (List Held)) (at c u : ℕ) → begins_at rows [] at c u ≡ found (row_at rows u) c
no_seam rows at c u = ap (option_or (found (row_at rows u) c)) (cond_same (eqb u at) None) ∙ or_none (found (row_at rows u) c)

-- the seam goes into its row
pub settled : (rows : List (List Held)) (seam row : List Held) (at at1 : ℕ) → at < length rows → ((c : ℕ) → found row c ≡ option_or (found (row_at rows at) c) (found seam c)) → (c u : ℕ) → begins_at (set rows at row) [] at1 c u ≡ begins_at rows seam at c u
settled rows seam row at at1 here united c u = no_seam (set rows at row) at1 c u ∙ by_place (cases_eq u at)
  where
    by_place : (u ≡ at) ⊎ (u ≡ at → ⊥) → found (row_at (set rows at row) u) c ≡ begins_at rows seam at c u
    by_place (inl e) =
        ap (λ (r : List Held). found r c) (ap (row_at (set rows at row)) e ∙ get_or-set_same rows at row [] here)
        ∙ united c
        ∙ ap (λ (k : ℕ). option_or (found (row_at rows k) c) (found seam c)) (sym e)
        ∙ sym (ap (λ (b : Bool). option_or (found (row_at rows u) c) (cond b (found seam c) None)) (eq-eqb u at e))
    by_place (inr n) =
        ap (λ (r : List Held). found r c) (get_or-set_other rows at u row [] n)
        ∙ sym (ap (λ (b : Bool). option_or (found (row_at rows u) c) (cond b (found seam c) None)) (ne_eqb u at n) ∙ or_none (found (row_at rows u) c))

some_injective : (v w : List ℕ) → Some v ≡ Some w → v ≡ w
some_injective v w e = cc

-- one cell of a draft more, of which something is kept
module _ (draft out out1 : List Held) (i : ℕ) (asc : IsAscending draft) (h : i < length draft) (others : (d : ℕ) → (d ≡ component_at draft i → ⊥) → found out1 d ≡ found out d) where
  now_found : found (take (i + 1) draft) (component_at draft i) ≡ Some (get_or draft i no_cell).words
  now_found =
      taken_found draft i (component_at draft i) h
      ∙ ap (λ (o : Option (List ℕ)). option_or o (cond (eqb (component_at draft i) (component_at draft i)) (Some (get_or draft i no_cell).words) None)) (found_past (take i draft) (component_at draft i) (asc i h))
      ∙ ap (λ (b : Bool). cond b (Some (get_or draft i no_cell).words) None) (eq-eqb (component_at draft i) (component_at draft i) refl)

  then_found : (d : ℕ) → (d ≡ component_at draft i → ⊥) → found (take (i + 1) draft) d ≡ found (take i draft) d
  then_found d n =
      taken_found draft i d h
      ∙ ap (λ (b : Bool). option_or (found (take i draft) d) (cond b (Some (get_or draft i no_cell).words) None)) (ne_eqb (component_at draft i) d (λ e. n (sym e)))
      ∙ or_none (found (take i draft) d)

  pub kept_more : (Good : ℕ → List ℕ → Option (List ℕ) → Type 0) → ((c : ℕ) (w : List ℕ) → found (take i draft) c ≡ Some w → Good c w (found out c)) → Good (component_at draft i) (get_or draft i no_cell).words (found out1 (component_at draft i)) → (c : ℕ) (w : List ℕ) → found (take (i + 1) draft) c ≡ Some w → Good c w (found out1 c)
  kept_more Good before now c w e = by_place (cases_eq c (component_at draft i))
    where
      by_place : (c ≡ component_at draft i) ⊎ (c ≡ component_at draft i → ⊥) → Good c w (found out1 c)
      by_place (inl q) =
          let same : (get_or draft i no_cell).words ≡ w = some_injective _ _ (sym now_found ∙ ap (found (take (i + 1) draft)) (sym q) ∙ e) in
          subst (λ (v : List ℕ). Good c v (found out1 c)) same
          (subst (λ (k : ℕ). Good k (get_or draft i no_cell).words (found out1 k)) (sym q) now)
      by_place (inr n) = subst (Good c w) (sym (others c n)) (before c w (sym (then_found c n) ∙ e))

  pub only_more : ((c : ℕ) → found (take i draft) c ≡ None → found out c ≡ None) → (c : ℕ) → found (take (i + 1) draft) c ≡ None → found out1 c ≡ None
  only_more before c e = by_place (cases_eq c (component_at draft i))
    where
      by_place : (c ≡ component_at draft i) ⊎ (c ≡ component_at draft i → ⊥) → found out1 c ≡ None
      by_place (inl q) = let p : Some (get_or draft i no_cell).words ≡ None = sym now_found ∙ ap (found (take (i + 1) draft)) (sym q) ∙ e in cc
      by_place (inr n) = others c n ∙ before c (sym (then_found c n) ∙ e)

pub end_more : (draft out1 : List Held) (i : ℕ) → i < length draft → end_of out1 ≤ component_at draft i + 1 → end_of out1 ≤ end_of (take (i + 1) draft)
end_more draft out1 i h e = omega (arith, taken_end draft i h, e)

-- what a push leaves
pub pushed_same : (out out1 : List Held) (c : ℕ) (w : List ℕ) → out1 ≡ out ++ record { component = c; words = w } ∷ [] → end_of out ≤ c → found out1 c ≡ Some w
pushed_same out out1 c w e above =
    ap (λ (v : List Held). found v c) e ∙ found_append out (record { component = c; words = w } ∷ []) c
    ∙ ap (λ (o : Option (List ℕ)). option_or o (found (record { component = c; words = w } ∷ []) c)) (found_past out c above)
    ∙ ap (λ (b : Bool). cond b (Some w) None) (eq-eqb c c refl)

pub pushed_other : (out out1 : List Held) (c : ℕ) (w : List ℕ) → out1 ≡ out ++ record { component = c; words = w } ∷ [] → (d : ℕ) → (d ≡ c → ⊥) → found out1 d ≡ found out d
pushed_other out out1 c w e d n =
    ap (λ (v : List Held). found v d) e ∙ found_append out (record { component = c; words = w } ∷ []) d
    ∙ ap (λ (b : Bool). option_or (found out d) (cond b (Some w) None)) (ne_eqb c d (λ q. n (sym q)))
    ∙ or_none (found out d)

pub absent : (out : List Held) (c : ℕ) (v w : List ℕ) → end_of out ≤ c → v ≡ w → unwrap_or (found out c) v ≡ w
absent out c v w above e = ap (λ (o : Option (List ℕ)). unwrap_or o v) (found_past out c above) ∙ e

pub present : (out : List Held) (c : ℕ) (v w x : List ℕ) → found out c ≡ Some w → w ≡ x → unwrap_or (found out c) v ≡ x
present out c v w x e f = ap (λ (o : Option (List ℕ)). unwrap_or o v) e ∙ f

pub not_marked : (o : Option (List ℕ)) (b : Bool) → b ≡ true → b ≡ is_some o → o ≡ None → ⊥
not_marked o b t e n = false≢true (sym (ap is_some n) ∙ sym e ∙ t)
