-- How many rows there are, and which queues they set.
use Rattle.std.proofs.Common.{◌≡◌, ℕ, ◌+◌, ◌-◌, ◌*◌, ◌<◌, ◌≤◌, List, [], ◌∷◌, length, map, get_or, drop, refl, sym, ap, ◌∙◌, arith, zero, suc, inl, inr}
use Rattle.std.specs.Prelude.{min}
use Rattle.std.specs.List.{flat_map}
use Rattle.std.proofs.lemmas.List.{length-append, length-map, drop_more, at_drop_all}
use Rattle.std.proofs.lemmas.Bool.{cases_lt}
use Rattle.std.proofs.Math.Nat.{mul-le-mul_right, le-mul_of_pos_right}
use Rattle.omega_net.specs.Wires.{below}
use Rattle.lab_tasks.specs.declared.swept.Swept.{Swept}
use Rattle.lab_tasks.specs.declared.swept.Setting.{Setting}
use Rattle.lab_tasks.specs.Sweeps.{rows_of, settings_of}

length-below : (n : ℕ) → length (below n) ≡ n
length-below zero = refl
length-below (suc n) = length-append (below n) (n ∷ []) ∙ (let e : length (below n) ≡ n = length-below n in omega arith)

length-settings_of : (swept : Swept) → length (settings_of swept) ≡ swept.to + 1 - swept.from
length-settings_of swept = length-map (below (swept.to + 1 - swept.from)) _ ∙ length-below (swept.to + 1 - swept.from)

length-behind : (settings : List Setting) (rows : List (List Setting)) → length (flat_map (λ s. map (λ row. s ∷ row) rows) settings) ≡ length settings * length rows
length-behind [] rows = omega arith
length-behind (s ∷ settings) rows =
    let first : length (map (λ (row : List Setting). s ∷ row) rows) ≡ length rows = length-map rows (λ row. s ∷ row) in
    let others = length-behind settings rows in
    length-append (map (λ (row : List Setting). s ∷ row) rows) _ ∙ omega arith

-- each depth with each row of the queues behind
pub length-rows_of : (swept : Swept) (all : List Swept) → length (rows_of (swept ∷ all)) ≡ (swept.to + 1 - swept.from) * length (rows_of all)
length-rows_of swept all = length-behind (settings_of swept) (rows_of all) ∙ ap (λ n. n * length (rows_of all)) (length-settings_of swept)

-- there is a row
pub some-rows : (all : List Swept) → 0 < length (rows_of all)
some-rows [] = omega arith
some-rows (swept ∷ all) =
    let others = some-rows all in
    let many : length (rows_of (swept ∷ all)) ≡ (swept.to + 1 - swept.from) * length (rows_of all) = length-rows_of swept all in
    let order : swept.from ≤ swept.to = swept.order in
    let least : 1 * length (rows_of all) ≤ (swept.to + 1 - swept.from) * length (rows_of all) = mul-le-mul_right (length (rows_of all)) (omega arith) in
    omega arith

-- a product that is capped on its way
pub capped : (m rows count others : ℕ) → 0 < others → min (min (rows * count) m * others) m ≡ min (rows * (count * others)) m
capped m rows count others some =
    elim (cases_lt m (rows * count)) [
      | inl more ↦
          let at : min (rows * count) m ≡ m = omega arith in
          let less : m ≤ m * others = le-mul_of_pos_right m some in
          let above : m * others ≤ rows * count * others = mul-le-mul_right others (omega arith) in
          rw at (omega arith)
      | inr few ↦
          let at : min (rows * count) m ≡ rows * count = omega arith in
          rw at (omega arith)
    ]

-- the depths of one more are in the product
pub more-rows : (m rows next : ℕ) (swept : Swept) (all : List Swept) → next ≡ min (rows * (swept.to + 1 - swept.from)) m
    → min (next * length (rows_of all)) m ≡ min (rows * length (rows_of (swept ∷ all))) m
more-rows m rows next swept all e =
    rw (e, length-rows_of swept all) (capped m rows (swept.to + 1 - swept.from) (length (rows_of all)) (some-rows all))

pub rows-next : (m rows next count i t : ℕ) (all : List Swept) (swept : Swept) → i < length all → swept ≡ get_or all i swept → count ≡ swept.to + 1 - swept.from
    → next ≡ min (rows * count) m → min (rows * length (rows_of (drop i all))) m ≡ t → min (next * length (rows_of (drop (i + 1) all))) m ≡ t
rows-next m rows next count i t all swept lt is counted e before =
    let at : drop i all ≡ swept ∷ drop (i + 1) all = drop_more all i swept lt ∙ ap (λ (s : Swept). s ∷ drop (i + 1) all) (sym is) in
    more-rows m rows next swept (drop (i + 1) all) (e ∙ ap (λ n. min (rows * n) m) counted)
    ∙ ap (λ (some : List Swept). min (rows * length (rows_of some)) m) (sym at) ∙ before

-- none is left
pub rows-last : (m rows i t : ℕ) (all : List Swept) → length all ≤ i → rows ≤ m → min (rows * length (rows_of (drop i all))) m ≡ t → rows ≡ t
rows-last m rows i t all le few before =
    let last : min (rows * length (rows_of (drop i all))) m ≡ min (rows * 1) m = at_drop_all (λ (some : List Swept). min (rows * length (rows_of some)) m) all i le in
    omega arith
