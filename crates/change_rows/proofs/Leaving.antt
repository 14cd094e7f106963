-- Rows that are left some of their cells.
use Rattle.std.proofs.Common.{◌≡◌, ℕ, ◌+◌, ◌<◌, ◌≤◌, ◌∙◌, ◌⊎◌, inl, inr, sym, ap, refl, subst, arith, Bool, true, false, cond, eqb, is_some, unwrap_or, Option, Some, None, List, [], ◌∷◌, ◌++◌, length, get_or}
use Rattle.std.specs.Prelude.{All}
use Rattle.std.specs.Option.{option_or}
use Rattle.std.proofs.Math.ListN.{set}
use Rattle.std.proofs.lemmas.Bool.{cases_eq, cases_lt, eq-eqb, ne_eqb}
use Rattle.std.proofs.lemmas.List.{get_or-set_same, get_or-set_other, get_or_append_left, get_or_push, length_push}
use Rattle.change_rows.specs.declared.run.Left.{Left}
use Rattle.change_rows.specs.Cells.{Held, found, end_of}
use Rattle.change_rows.specs.Marks.{is_in}
use Rattle.change_rows.specs.Changes.{row_at, begins_at}
use Rattle.change_rows.specs.Left.{left_in}
use Rattle.change_rows.proofs.Finding.{found_past}
use Rattle.change_rows.proofs.Editing.{pushed_same, pushed_other}
use Rattle.change_rows.proofs.Merging.{pushed_end}

-- the last of a list is taken
module _ {X : Type 0} (P : X → Type 0) (rest rest1 : List X) (x : X) (e : rest ≡ rest1 ++ x ∷ []) (all : All P rest) where
  pub all_front : All P rest1
  all_front = λ k d h. subst P (ap (λ (v : List X). get_or v k d) e ∙ get_or_append_left rest1 (x ∷ []) d k h) (all k d (omega (arith, h, ap length e, length_push rest1 x)))

  pub all_last : P x
  all_last = subst P (ap (λ (v : List X). get_or v (length rest1) x) e ∙ get_or_push rest1 x x (length rest1) refl) (all (length rest1) x (omega (arith, ap length e, length_push rest1 x)))

left_push : (rest : List Left) (x : Left) (u : ℕ) → left_in (rest ++ x ∷ []) u ≡ option_or (left_in rest u) (cond (eqb x.row u) (Some x.cells) None)
left_push [] x u = refl
left_push (y ∷ ys) x u = ap (cond (eqb y.row u) (Some y.cells)) (left_push ys x u) ∙ moved (eqb y.row u)
  where
    moved : (b : Bool) → cond b (Some y.cells) (option_or (left_in ys u) (cond (eqb x.row u) (Some x.cells) None)) ≡ option_or (cond b (Some y.cells) (left_in ys u)) (cond (eqb x.row u) (Some x.cells) None)
    moved true = refl
    moved false = refl

or_none : (o : Option (List Held)) → option_or o None ≡ o
or_none None = refl
or_none (Some x) = refl

module _ (rest rest1 : List Left) (x : Left) (e : rest1 ≡ rest ++ x ∷ []) where
  pub left_same : (u : ℕ) → u ≡ x.row → left_in rest1 u ≡ option_or (left_in rest u) (Some x.cells)
  left_same u q =
      ap (λ (v : List Left). left_in v u) e ∙ left_push rest x u
      ∙ ap (λ (b : Bool). option_or (left_in rest u) (cond b (Some x.cells) None)) (eq-eqb x.row u (sym q))

  pub left_other : (u : ℕ) → (u ≡ x.row → ⊥) → left_in rest1 u ≡ left_in rest u
  left_other u n =
      ap (λ (v : List Left). left_in v u) e ∙ left_push rest x u
      ∙ ap (λ (b : Bool). option_or (left_in rest u) (cond b (Some x.cells) None)) (ne_eqb x.row u (λ q. n (sym q)))
      ∙ or_none (left_in rest u)

-- the last one is put
pub put_last : (rest rest1 : List Left) (x : Left) (rows rows1 : List (List Held)) → rest ≡ rest1 ++ x ∷ [] → x.row < length rows → rows1 ≡ set rows x.row x.cells → (u : ℕ) → unwrap_or (left_in rest1 u) (row_at rows1 u) ≡ unwrap_or (left_in rest u) (row_at rows u)
put_last rest rest1 x rows rows1 e here put u = by_place (cases_eq u x.row)
  where
    first : (o : Option (List Held)) (y z : List Held) → unwrap_or o y ≡ unwrap_or (option_or o (Some y)) z
    first None y z = refl
    first (Some v) y z = refl

    by_place : (u ≡ x.row) ⊎ (u ≡ x.row → ⊥) → unwrap_or (left_in rest1 u) (row_at rows1 u) ≡ unwrap_or (left_in rest u) (row_at rows u)
    by_place (inl q) =
        ap (unwrap_or (left_in rest1 u)) (ap (λ (r : List (List Held)). row_at r u) put ∙ ap (row_at (set rows x.row x.cells)) q ∙ get_or-set_same rows x.row x.cells [] here)
        ∙ first (left_in rest1 u) x.cells (row_at rows u)
        ∙ sym (ap (λ (o : Option (List Held)). unwrap_or o (row_at rows u)) (left_same rest1 rest x e u q))
    by_place (inr n) =
        ap (unwrap_or (left_in rest1 u)) (ap (λ (r : List (List Held)). row_at r u) put ∙ get_or-set_other rows x.row u x.cells [] n)
        ∙ sym (ap (λ (o : Option (List Held)). unwrap_or o (row_at rows u)) (left_other rest1 rest x e u n))

or_left : (o p : Option (List ℕ)) → option_or o p ≡ None → o ≡ None
or_left None p e = refl
or_left (Some w) p e = e

-- a row at which nothing of a member of the set begins has none of its cells
pub stays : (rows : List (List Held)) (seam : List Held) (at c u : ℕ) (set : List ℕ) → (is_in set c ≡ true → begins_at rows seam at c u ≡ None) → found (row_at rows u) c ≡ cond (is_in set c) None (found (row_at rows u) c)
stays rows seam at c u set none = by_member (is_in set c) refl
  where
    by_member : (b : Bool) → is_in set c ≡ b → found (row_at rows u) c ≡ cond b None (found (row_at rows u) c)
    by_member true e = or_left (found (row_at rows u) c) _ (none e)
    by_member false e = refl

-- one row more, and those behind it up to the next one stay
module _ (rows : List (List Held)) (seam : List Held) (at : ℕ) (set : List ℕ) (rest rest1 : List Left) (x : Left) (before row next width : ℕ)
    (e : rest1 ≡ rest ++ x ∷ [])
    (is : x.row ≡ row)
    (low : before < row)
    (behind : (u : ℕ) → row ≤ u → left_in rest u ≡ None) where
  pub left_before : ((u : ℕ) → u ≤ before → left_in rest u ≡ None) → (u : ℕ) → u ≤ before → left_in rest1 u ≡ None
  left_before none u h = left_other rest rest1 x e u (λ q. absurd (omega (arith, q, is, low, h))) ∙ none u h

  pub left_behind : row + 1 ≤ next → (u : ℕ) → next ≤ u → left_in rest1 u ≡ None
  left_behind order u h = left_other rest rest1 x e u (λ q. absurd (omega (arith, q, is, order, h))) ∙ behind u (omega (arith, order, h))

  module _ (c : ℕ)
      (left : found x.cells c ≡ cond (is_in set c) None (found (row_at rows row) c))
      (steady : (u : ℕ) → row + 1 ≤ u → u < next → is_in set c ≡ true → begins_at rows seam at c u ≡ None)
      (before_found : (u : ℕ) → before < u → u < row → found (unwrap_or (left_in rest u) (row_at rows u)) c ≡ cond (is_in set c) None (found (row_at rows u) c)) where
    pub left_found : (u : ℕ) → before < u → u < next → found (unwrap_or (left_in rest1 u) (row_at rows u)) c ≡ cond (is_in set c) None (found (row_at rows u) c)
    left_found u l h = by_place (cases_lt u row) (cases_eq u row)
      where
        by_place : (u < row) ⊎ (row ≤ u) → (u ≡ row) ⊎ (u ≡ row → ⊥) → found (unwrap_or (left_in rest1 u) (row_at rows u)) c ≡ cond (is_in set c) None (found (row_at rows u) c)
        by_place (inl s) _ =
            ap (λ (o : Option (List Held)). found (unwrap_or o (row_at rows u)) c) (left_other rest rest1 x e u (λ q. absurd (omega (arith, q, is, s))))
            ∙ before_found u l s
        by_place (inr s) (inl q) =
            ap (λ (o : Option (List Held)). found (unwrap_or o (row_at rows u)) c) (left_same rest rest1 x e u (q ∙ sym is) ∙ ap (λ (o : Option (List Held)). option_or o (Some x.cells)) (behind u s))
            ∙ left ∙ ap (λ (k : ℕ). cond (is_in set c) None (found (row_at rows k) c)) (sym q)
        by_place (inr s) (inr n) =
            ap (λ (o : Option (List Held)). found (unwrap_or o (row_at rows u)) c) (left_other rest rest1 x e u (λ q. n (q ∙ is)) ∙ behind u s)
            ∙ stays rows seam at c u set (steady u (omega (arith, s, n)) h)

-- a cell more of a component that a set has, and none up to the next one
module _ (set : List ℕ) (out out1 : List Held) (c next : ℕ) (w : List ℕ)
    (e : out1 ≡ out ++ record { component = c; words = w } ∷ [])
    (end : end_of out ≤ c)
    (member : is_in set c ≡ true)
    (passed : (d : ℕ) → c + 1 ≤ d → d < next → is_in set d ≡ false) where
  pub chosen_more : ((d : ℕ) → d < c → is_some (found out d) ≡ is_in set d) → (d : ℕ) → d < next → is_some (found out1 d) ≡ is_in set d
  chosen_more before d h = by_place (cases_lt d c) (cases_eq d c)
    where
      by_place : (d < c) ⊎ (c ≤ d) → (d ≡ c) ⊎ (d ≡ c → ⊥) → is_some (found out1 d) ≡ is_in set d
      by_place (inl l) _ = ap is_some (pushed_other out out1 c w e d (λ q. absurd (omega (arith, q, l)))) ∙ before d l
      by_place (inr l) (inl q) = ap (λ (k : ℕ). is_some (found out1 k)) q ∙ ap is_some (pushed_same out out1 c w e end) ∙ sym (ap (is_in set) q ∙ member)
      by_place (inr l) (inr n) =
          let past : end_of out1 ≤ d = omega (arith, pushed_end out out1 c w e, end, l, n) in
          ap is_some (found_past out1 d past) ∙ sym (passed d (omega (arith, l, n)) h)

  pub chosen_end : c + 1 ≤ next → end_of out1 ≤ next
  chosen_end h = omega (arith, pushed_end out out1 c w e, end, h)
