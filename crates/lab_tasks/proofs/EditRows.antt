-- How many rows a sweep of edits has.
use Rattle.std.proofs.Common.{◌≡◌, ℕ, zero, suc, ◌+◌, ◌-◌, ◌*◌, ◌^◌, ◌<◌, ◌≤◌, List, length, drop, get_or, refl, sym, ap, ◌∙◌, arith, inl, inr}
use Rattle.std.specs.Prelude.{min, nat_le}
use Rattle.std.proofs.lemmas.List.{drop_more, at_drop_all}
use Rattle.std.proofs.lemmas.Bool.{cases_lt}
use Rattle.std.proofs.lemmas.Bool.Decides.{nat_tests}
use Rattle.std.proofs.Math.Nat.{mul-le-mul_right, le-mul_of_pos_right}
use Rattle.edit_templates.specs.declared.step.Axis.{Axis}
use Rattle.edit_templates.proofs.Counts.{capped}
use Rattle.lab_tasks.specs.EditSweeps.{product_of}

-- ---- how many rows there are

pub product-next : (m done next i t : ℕ) (axes : List Axis) (d : Axis) → i < length axes → next ≡ min (done * length (get_or axes i d).steps.items) m
    → min (done * product_of (drop i axes)) m ≡ t → min (next * product_of (drop (i + 1) axes)) m ≡ t
product-next m done next i t axes d lt e before =
    ap (λ n. min (n * product_of (drop (i + 1) axes)) m) e ∙ capped m done (length (get_or axes i d).steps.items) (product_of (drop (i + 1) axes))
    ∙ ap (λ (some : List Axis). min (done * product_of some) m) (sym (drop_more axes i d lt)) ∙ before

pub product-last : (m done i t : ℕ) (axes : List Axis) → length axes ≤ i → done ≤ m → min (done * product_of (drop i axes)) m ≡ t → done ≡ t
product-last m done i t axes le few before =
    let last : min (done * product_of (drop i axes)) m ≡ min (done * 1) m = at_drop_all (λ (some : List Axis). min (done * product_of some) m) axes i le in
    omega arith

both_far : (a b : ℕ) → 10000 < a → 10000 < b → nat_le a 10000 ≡ nat_le b 10000
both_far a b x y = grind (arith, nat_tests)

few_capped : (n : ℕ) → nat_le (min n (2 ^ 64 - 1)) 10000 ≡ nat_le n 10000
few_capped n =
    elim (cases_lt 10000 n) [
      | inl far ↦ both_far (min n (2 ^ 64 - 1)) n (omega arith) far
      | inr near ↦ let at : min n (2 ^ 64 - 1) ≡ n = omega arith in ap (λ m. nat_le m 10000) at
    ]

-- a product of capped numbers is few where that of the numbers is
few_far : (a b : ℕ) → 2 ^ 32 - 1 < a → nat_le (min ((2 ^ 32 - 1) * min b (2 ^ 64 - 1)) (2 ^ 64 - 1)) 10000 ≡ nat_le (a * b) 10000
few_far a zero lt = let none : a * 0 ≡ 0 = omega arith in rw none refl
few_far a (suc b) lt =
    let least : a ≤ a * suc b = le-mul_of_pos_right a (omega arith) in
    both_far (min ((2 ^ 32 - 1) * min (suc b) (2 ^ 64 - 1)) (2 ^ 64 - 1)) (a * suc b) (omega arith) (omega arith)

few_near : (a b : ℕ) → 2 ^ 64 - 1 < b → nat_le (min (a * (2 ^ 64 - 1)) (2 ^ 64 - 1)) 10000 ≡ nat_le (a * b) 10000
few_near zero b lt = let none : min (0 * (2 ^ 64 - 1)) (2 ^ 64 - 1) ≡ 0 * b = omega arith in ap (λ n. nat_le n 10000) none
few_near (suc a) b lt =
    let one : 1 ≤ suc a = omega arith in
    let least : 1 * b ≤ suc a * b = mul-le-mul_right b one in
    both_far (min (suc a * (2 ^ 64 - 1)) (2 ^ 64 - 1)) (suc a * b) (omega arith) (omega arith)

pub few-rows : (a b : ℕ) → nat_le (min (min a (2 ^ 32 - 1) * min b (2 ^ 64 - 1)) (2 ^ 64 - 1)) 10000 ≡ nat_le (a * b) 10000
few-rows a b =
    elim (cases_lt (2 ^ 32 - 1) a) [
      | inl far ↦ let at : min a (2 ^ 32 - 1) ≡ 2 ^ 32 - 1 = omega arith in rw at (few_far a b far)
      | inr near ↦
          let at : min a (2 ^ 32 - 1) ≡ a = omega arith in
          elim (cases_lt (2 ^ 64 - 1) b) [
            | inl more ↦ let by : min b (2 ^ 64 - 1) ≡ 2 ^ 64 - 1 = omega arith in rw (at, by) (few_near a b more)
            | inr few ↦ let by : min b (2 ^ 64 - 1) ≡ b = omega arith in rw (at, by) (few_capped (a * b))
          ]
    ]
