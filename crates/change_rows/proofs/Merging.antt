-- Cells of one row put together from those of two, a cell at a time.
use Rattle.std.proofs.Common.{◌≡◌, ℕ, ◌+◌, ◌<◌, ◌≤◌, ◌∙◌, ◌⊎◌, inl, inr, ap, refl, arith, max, Bool, cond, eqb, Option, Some, None, List, [], ◌∷◌, ◌++◌, length, take, get_or}
use Rattle.std.specs.Option.{option_or}
use Rattle.std.proofs.lemmas.Bool.{cases_eq, cases_lt, eq-eqb, ne_eqb}
use Rattle.std.proofs.lemmas.List.{take_more, get_or-take, length-take-le}
use Rattle.change_rows.specs.Cells.{Held, no_cell, found, end_of, component_at, IsAscending}
use Rattle.change_rows.proofs.Finding.{ascends, found_append, found_none, end_push, below_end}

abbrev pub single : List Held → ℕ → ℕ → Option (List ℕ)
single cells i c = cond (eqb (component_at cells i) c) (Some (get_or cells i no_cell).words) None

pub taken_found : (cells : List Held) (i c : ℕ) → i < length cells → found (take (i + 1) cells) c ≡ option_or (found (take i cells) c) (single cells i c)
taken_found cells i c h = ap (λ (v : List Held). found v c) (take_more cells i no_cell h) ∙ found_append (take i cells) (get_or cells i no_cell ∷ []) c

pub taken_end : (cells : List Held) (i : ℕ) → i < length cells → end_of (take (i + 1) cells) ≡ max (end_of (take i cells)) (component_at cells i + 1)
taken_end cells i h = ap end_of (take_more cells i no_cell h) ∙ end_push (take i cells) (get_or cells i no_cell)

-- what a push of the cell at a place gives
pub pushed_found : (cells out out1 : List Held) (i a : ℕ) (words : List ℕ) → a ≡ component_at cells i → words ≡ (get_or cells i no_cell).words → out1 ≡ out ++ record { component = a; words = words } ∷ [] → (c : ℕ) → found out1 c ≡ option_or (found out c) (single cells i c)
pushed_found cells out out1 i a words e f g c =
    ap (λ (v : List Held). found v c) g ∙ found_append out (record { component = a; words = words } ∷ []) c
    ∙ ap (λ (k : ℕ). option_or (found out c) (cond (eqb k c) (Some words) None)) e
    ∙ ap (λ (w : List ℕ). option_or (found out c) (cond (eqb (component_at cells i) c) (Some w) None)) f

pub pushed_end : (out out1 : List Held) (a : ℕ) (words : List ℕ) → out1 ≡ out ++ record { component = a; words = words } ∷ [] → end_of out1 ≡ max (end_of out) (a + 1)
pushed_end out out1 a words g = ap end_of g ∙ end_push out (record { component = a; words = words })

pub or_none : (o : Option (List ℕ)) → option_or o None ≡ o
or_none None = refl
or_none (Some x) = refl

pub single_same : (cells : List Held) (i c : ℕ) → component_at cells i ≡ c → single cells i c ≡ Some (get_or cells i no_cell).words
single_same cells i c e = ap (λ (b : Bool). cond b (Some (get_or cells i no_cell).words) None) (eq-eqb (component_at cells i) c e)

pub single_other : (cells : List Held) (i c : ℕ) → (component_at cells i ≡ c → ⊥) → single cells i c ≡ None
single_other cells i c ne = ap (λ (b : Bool). cond b (Some (get_or cells i no_cell).words) None) (ne_eqb (component_at cells i) c ne)

-- a component between two neighbours isn't there
pub found_gap : (cells : List Held) (j c : ℕ) → IsAscending cells → j ≤ length cells → end_of (take j cells) ≤ c → (j < length cells → c < component_at cells j) → found cells c ≡ None
found_gap cells j c asc h low high = found_none cells c (λ k m e. absurd (by_place k m e (cases_lt k j) (cases_eq k j)))
  where
    by_place : (k : ℕ) → k < length cells → component_at cells k ≡ c → (k < j) ⊎ (j ≤ k) → (k ≡ j) ⊎ (k ≡ j → ⊥) → ⊥
    by_place k m e (inl l) _ =
        let same : component_at (take j cells) k ≡ component_at cells k = ap (λ (x : Held). x.component) (get_or-take j cells k no_cell l) in
        omega (arith, e, same, low, below_end (take j cells) k (omega (arith, l, length-take-le j cells h)))
    by_place k m e (inr l) (inl q) = omega (arith, e, high (omega (arith, q, m)), ap (component_at cells) q)
    by_place k m e (inr l) (inr q) =
        let less : j < k = omega (arith, l, q) in
        let step : component_at cells j < component_at cells k = ascends cells asc j k less m in
        omega (arith, e, step, high (omega (arith, less, m)))
