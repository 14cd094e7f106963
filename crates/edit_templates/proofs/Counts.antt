-- Products that are capped on their way.
use Rattle.std.proofs.Common.{◌≡◌, ℕ, zero, suc, ◌+◌, ◌-◌, ◌*◌, ◌<◌, ◌≤◌, List, [], ◌∷◌, length, map, get_or, drop, refl, sym, ap, ◌∙◌, arith, inl, inr}
use Rattle.std.specs.Prelude.{min}
use Rattle.std.proofs.lemmas.List.{drop_more, at_drop_all, get_or-map, length-append, length-map}
use Rattle.std.proofs.lemmas.Bool.{cases_lt}
use Rattle.std.proofs.Math.Nat.{mul-le-mul_right, le-mul_of_pos_right}
use Rattle.omega_net.specs.Wires.{below}
use Rattle.edit_templates.specs.declared.choices.Choices.TheVariants.{Range}
use Rattle.edit_templates.specs.declared.span.Span.{Span}
use Rattle.edit_templates.specs.declared.template.Brace.{Brace as Kept}
use Rattle.edit_templates.specs.Braces.{kept_choices}
use Rattle.edit_templates.specs.Templates.{Brace, kept_brace, ways}

capped_some : (m rows count others : ℕ) → 0 < others → min (min (rows * count) m * others) m ≡ min (rows * (count * others)) m
capped_some m rows count others some =
    elim (cases_lt m (rows * count)) [
      | inl more ↦
          let at : min (rows * count) m ≡ m = omega arith in
          let less : m ≤ m * others = le-mul_of_pos_right m some in
          let above : m * others ≤ rows * count * others = mul-le-mul_right others (omega arith) in
          rw at (omega arith)
      | inr few ↦
          let at : min (rows * count) m ≡ rows * count = omega arith in
          rw at (omega arith)
    ]

pub capped : (m rows count others : ℕ) → min (min (rows * count) m * others) m ≡ min (rows * (count * others)) m
capped m rows count zero = omega arith
capped m rows count (suc others) = capped_some m rows count (suc others) (omega arith)

length-below : (n : ℕ) → length (below n) ≡ n
length-below zero = refl
length-below (suc n) = length-append (below n) (n ∷ []) ∙ (let e : length (below n) ≡ n = length-below n in omega arith)

pub length-range : (span : Span) → length (kept_choices (Range span)) ≡ span.to + 1 - span.from
length-range span = length-map (below (span.to + 1 - span.from)) _ ∙ length-below (span.to + 1 - span.from)

-- one brace more
pub ways-next : (m done next count i t : ℕ) (braces : List Brace) (d : Brace) → i < length braces → count ≡ length (get_or braces i d).0 → next ≡ min (done * count) m
    → min (done * ways (drop i braces)) m ≡ t → min (next * ways (drop (i + 1) braces)) m ≡ t
ways-next m done next count i t braces d lt counted e before =
    ap (λ n. min (n * ways (drop (i + 1) braces)) m) e ∙ capped m done count (ways (drop (i + 1) braces))
    ∙ ap (λ n. min (done * (n * ways (drop (i + 1) braces))) m) counted
    ∙ ap (λ (some : List Brace). min (done * ways some) m) (sym (drop_more braces i d lt)) ∙ before

-- none is left
pub ways-last : (m done i t : ℕ) (braces : List Brace) → length braces ≤ i → done ≤ m → min (done * ways (drop i braces)) m ≡ t → done ≡ t
ways-last m done i t braces le few before =
    let last : min (done * ways (drop i braces)) m ≡ min (done * 1) m = at_drop_all (λ (some : List Brace). min (done * ways some) m) braces i le in
    omega arith

-- one brace more of those that are kept
pub ways-more : (m done next count i t : ℕ) (kept : List Kept) (braces : List Brace) (brace : Kept) → i < length kept → braces ≡ map kept_brace kept
    → brace ≡ get_or kept i brace → count ≡ length (kept_choices brace.choices) → next ≡ min (done * count) m
    → min (done * ways (drop i braces)) m ≡ t → min (next * ways (drop (i + 1) braces)) m ≡ t
ways-more m done next count i t kept braces brace lt same is counted e before =
    let at : get_or (map kept_brace kept) i (kept_brace brace) ≡ kept_brace brace = get_or-map kept_brace kept i brace (kept_brace brace) lt ∙ ap kept_brace (sym is) in
    let many : i < length (map kept_brace kept) = omega (arith, length-map kept kept_brace) in
    let first : min (done * ways (drop i (map kept_brace kept))) m ≡ t = ap (λ (some : List Brace). min (done * ways (drop i some)) m) (sym same) ∙ before in
    ap (λ (some : List Brace). min (next * ways (drop (i + 1) some)) m) same
    ∙ ways-next m done next count i t (map kept_brace kept) (kept_brace brace) many (counted ∙ ap (λ (b : Brace). length b.0) (sym at)) e first
