-- What cells hold for a component.
use Rattle.std.proofs.Common.{◌≡◌, ℕ, zero, suc, ◌+◌, ◌<◌, ◌≤◌, ◌∙◌, ◌⊎◌, inl, inr, sym, ap, refl, arith, max, Bool, true, false, cond, eqb, Some, None, List, [], ◌∷◌, ◌++◌, length, take, get_or}
use Rattle.std.specs.Option.{option_or}
use Rattle.std.proofs.lemmas.Bool.{cond-false, ne_eqb, eq-eqb, cases_eq}
use Rattle.std.proofs.lemmas.List.{get_or-take, length-take-le, take_at, take-append-le, get_or_append_left, get_or_push, length_push, take_all, take_more}
use Rattle.change_rows.specs.Cells.{Held, no_cell, found, end_of, component_at, IsAscending}

pub below_end : (cells : List Held) (i : ℕ) → i < length cells → component_at cells i < end_of cells
below_end [] i h = absurd (omega arith)
below_end (x ∷ xs) zero h = omega arith
below_end (x ∷ xs) (suc i) h = omega (arith, below_end xs i (omega arith))

-- an earlier component is below a later one
pub ascends : (cells : List Held) → IsAscending cells → (i j : ℕ) → i < j → j < length cells → component_at cells i < component_at cells j
ascends cells asc i j h l =
    let same : component_at (take j cells) i ≡ component_at cells i = ap (λ (x : Held). x.component) (get_or-take j cells i no_cell h) in
    omega (arith, same, below_end (take j cells) i (omega (arith, length-take-le j cells (omega arith))), asc j l)

pub found_first : (cells : List Held) (i c : ℕ) → i < length cells → ((k : ℕ) → k < i → component_at cells k ≡ c → ⊥) → component_at cells i ≡ c → found cells c ≡ Some (get_or cells i no_cell).words
found_first [] i c h none e = absurd (omega arith)
found_first (x ∷ xs) zero c h none e = ap (λ b. cond b (Some x.words) (found xs c)) (eq-eqb x.component c e)
found_first (x ∷ xs) (suc i) c h none e =
    cond-false (eqb x.component c) (Some x.words) (found xs c) (ne_eqb x.component c (none 0 (omega arith)))
    ∙ found_first xs i c (omega arith) (λ k m. none (suc k) (omega arith)) e

pub found_none : (cells : List Held) (c : ℕ) → ((k : ℕ) → k < length cells → component_at cells k ≡ c → ⊥) → found cells c ≡ None
found_none [] c none = refl
found_none (x ∷ xs) c none =
    cond-false (eqb x.component c) (Some x.words) (found xs c) (ne_eqb x.component c (none 0 (omega arith)))
    ∙ found_none xs c (λ k m. none (suc k) (omega arith))

-- the cell at a place is what is found
pub found_at : (cells : List Held) (i : ℕ) → IsAscending cells → i < length cells → found cells (component_at cells i) ≡ Some (get_or cells i no_cell).words
found_at cells i asc h = found_first cells i (component_at cells i) h (λ k m e. absurd (omega (arith, e, ascends cells asc k i m h))) refl

pub found_past : (cells : List Held) (c : ℕ) → end_of cells ≤ c → found cells c ≡ None
found_past cells c h = found_none cells c (λ k m e. absurd (omega (arith, e, below_end cells k m)))

pub found_append : (xs ys : List Held) (c : ℕ) → found (xs ++ ys) c ≡ option_or (found xs c) (found ys c)
found_append [] ys c = refl
found_append (x ∷ xs) ys c = ap (cond (eqb x.component c) (Some x.words)) (found_append xs ys c) ∙ moved (eqb x.component c)
  where
    moved : (b : Bool) → cond b (Some x.words) (option_or (found xs c) (found ys c)) ≡ option_or (cond b (Some x.words) (found xs c)) (found ys c)
    moved true = refl
    moved false = refl

pub end_push : (cells : List Held) (x : Held) → end_of (cells ++ x ∷ []) ≡ max (end_of cells) (x.component + 1)
end_push [] x = omega arith
end_push (y ∷ ys) x = omega (arith, end_push ys x)

pub end_append : (xs ys : List Held) → end_of (xs ++ ys) ≡ max (end_of xs) (end_of ys)
end_append [] ys = omega arith
end_append (x ∷ xs) ys = omega (arith, end_append xs ys)

pub ascending_push : (cells : List Held) (x : Held) → IsAscending cells → end_of cells ≤ x.component → IsAscending (cells ++ x ∷ [])
ascending_push cells x asc h = λ i l. by_place i l (cases_eq i (length cells))
  where
    by_place : (i : ℕ) → i < length (cells ++ x ∷ []) → (i ≡ length cells) ⊎ (i ≡ length cells → ⊥) → end_of (take i (cells ++ x ∷ [])) ≤ component_at (cells ++ x ∷ []) i
    by_place i l (inl e) =
        let front : end_of (take i (cells ++ x ∷ [])) ≡ end_of cells = ap end_of (take_at cells (x ∷ []) i (sym e)) in
        let here : component_at (cells ++ x ∷ []) i ≡ x.component = ap (λ (y : Held). y.component) (get_or_push cells x no_cell i (sym e)) in
        omega (arith, front, here, h)
    by_place i l (inr ne) =
        let less : i < length cells = omega (arith, l, length_push cells x, ne) in
        let front : end_of (take i (cells ++ x ∷ [])) ≡ end_of (take i cells) = ap end_of (take-append-le i cells (x ∷ []) (omega arith)) in
        let here : component_at (cells ++ x ∷ []) i ≡ component_at cells i = ap (λ (y : Held). y.component) (get_or_append_left cells (x ∷ []) no_cell i less) in
        omega (arith, front, here, asc i less)

end_alike : (xs ys : List Held) → length xs ≡ length ys → ((k : ℕ) → k < length xs → component_at xs k ≡ component_at ys k) → end_of xs ≡ end_of ys
end_alike [] [] e same = refl
end_alike [] (y ∷ ys) e same = absurd (omega (arith, e))
end_alike (x ∷ xs) [] e same = absurd (omega (arith, e))
end_alike (x ∷ xs) (y ∷ ys) e same = omega (arith, same 0 (omega arith), end_alike xs ys (omega (arith, e)) (λ k h. same (suc k) (omega arith)))

-- whether cells ascend is told by their components
pub same_ascends : (xs ys : List Held) → length xs ≡ length ys → ((k : ℕ) → k < length xs → component_at xs k ≡ component_at ys k) → IsAscending xs → IsAscending ys
same_ascends xs ys e same asc = λ i l.
    let m : i < length xs = omega (arith, l, e) in
    let front : end_of (take i xs) ≡ end_of (take i ys) = end_alike (take i xs) (take i ys) (omega (arith, length-take-le i xs (omega arith), length-take-le i ys (omega arith))) (λ k h. taken i m k (omega (arith, h, length-take-le i xs (omega arith)))) in
    omega (arith, front, asc i m, same i m)
  where
    taken : (i : ℕ) → i < length xs → (k : ℕ) → k < i → component_at (take i xs) k ≡ component_at (take i ys) k
    taken i m k h =
        ap (λ (x : Held). x.component) (get_or-take i xs k no_cell h) ∙ same k (omega arith) ∙ sym (ap (λ (x : Held). x.component) (get_or-take i ys k no_cell h))

-- the last component is the largest
pub end_last : (cells : List Held) (n : ℕ) → IsAscending cells → length cells ≡ n + 1 → end_of cells ≡ component_at cells n + 1
end_last cells n asc e =
    let whole : end_of (take (n + 1) cells) ≡ end_of cells = ap end_of (take_all (n + 1) cells (omega (arith, e))) in
    let parts : end_of (take (n + 1) cells) ≡ max (end_of (take n cells)) (component_at cells n + 1) = ap end_of (take_more cells n no_cell (omega (arith, e))) ∙ end_push (take n cells) (get_or cells n no_cell) in
    omega (arith, whole, parts, asc n (omega (arith, e)))
