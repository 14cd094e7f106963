-- Heads that move from one level to the same labels of another, one after another.
use Rattle.std.proofs.Common.{◌≡◌, ℕ, ◌+◌, ◌<◌, ◌≤◌, Bool, true, false, cond, List, refl, ap, sym, ◌∙◌, ◌⊎◌, inl, inr}
use Rattle.std.specs.Prelude.{◌==◌, ◌&&◌}
use Rattle.std.proofs.lemmas.Bool.{cases_lt, eqb-true, eq-eqb, lt-ltb, le-ltb}
use Rattle.arrayvec.specs.ArrayVec.{ArrayVec}
use Rattle.omega_net.specs.Queues.{head, without_head, joined}
use Rattle.flat_row.specs.Masks.{has}
use Rattle.flat_row.specs.Queues.{Queues}
use Rattle.flat_row.specs.Row.{queue_of}
use Rattle.flat_row.specs.Rows.{if_leaves}
use Rattle.flat_row.specs.Moving.{passed_straight, moved_straight}
use Rattle.flat_row.proofs.Carrying.{upto, upto_other, upto_here, upto_later, upto_none, false_true}

module _ {T : Type 0} (from to : ℕ) (levels : List (Queues T)) where
  -- what a queue holds by whether its label leaves
  abbrev made : Bool → ℕ → ℕ → ArrayVec T
  made s l z = cond (l == from) (without_head s (queue_of levels from z)) (cond (l == to) (joined (queue_of levels to z) (if_leaves s (queue_of levels from z))) (queue_of levels l z))

  none_by : (f t : Bool) (l z : ℕ) → (l == from) ≡ f → (l == to) ≡ t → queue_of levels l z ≡ cond f (queue_of levels from z) (cond t (queue_of levels to z) (queue_of levels l z))
  none_by true t l z e c = ap (λ n. queue_of levels n z) (eqb-true l from e)
  none_by false true l z e c = ap (λ n. queue_of levels n z) (eqb-true l to c)
  none_by false false l z e c = refl

  pub none_straight : (leave l z : ℕ) → queue_of levels l z ≡ moved_straight (upto leave 0) from to levels l z
  none_straight leave l z = none_by (l == from) (l == to) l z refl refl ∙ sym (ap (λ s. made s l z) (upto_none leave z))

  pub all_straight : (leave n l z : ℕ) → z < 64 → ((y : ℕ) → n ≤ y → y < 64 → has leave y ≡ false) → moved_straight (upto leave n) from to levels l z ≡ moved_straight (has leave) from to levels l z
  all_straight leave n l z small none = ap (λ s. made s l z) (by_place (cases_lt z n))
    where
      by_place : (z < n) ⊎ (n ≤ z) → upto leave n z ≡ has leave z
      by_place (inl g) = ap (λ t. t && has leave z) (lt-ltb z n g)
      by_place (inr g) = ap (λ t. t && has leave z) (le-ltb z n g) ∙ sym (none z g small)

  module _ (leave n x : ℕ) (apart : from ≡ to → ⊥) (small : x < 64) (le : n ≤ x) (none : (y : ℕ) → n ≤ y → y < x → has leave y ≡ false) (here : has leave x ≡ true)
      (now : List (Queues T)) (done : (l z : ℕ) → z < 64 → queue_of now l z ≡ moved_straight (upto leave n) from to levels l z) where
    not_from : (to == from) ≡ false
    not_from = by_test (to == from) refl
      where
        by_test : (t : Bool) → (to == from) ≡ t → t ≡ false
        by_test false e = refl
        by_test true e = absurd (apart (sym (eqb-true to from e)))

    at_from : (z : ℕ) → z < 64 → queue_of now from z ≡ without_head (upto leave n z) (queue_of levels from z)
    at_from z zs =
        done from z zs ∙ ap (λ t. cond t (without_head (upto leave n z) (queue_of levels from z)) (cond (from == to) (joined (queue_of levels to z) (if_leaves (upto leave n z) (queue_of levels from z))) (queue_of levels from z))) (eq-eqb from from refl)

    at_to : (z : ℕ) → z < 64 → queue_of now to z ≡ joined (queue_of levels to z) (if_leaves (upto leave n z) (queue_of levels from z))
    at_to z zs =
        done to z zs ∙ ap (λ t. cond t (without_head (upto leave n z) (queue_of levels from z)) (cond (to == to) (joined (queue_of levels to z) (if_leaves (upto leave n z) (queue_of levels from z))) (queue_of levels to z))) not_from
        ∙ ap (λ t. cond t (joined (queue_of levels to z) (if_leaves (upto leave n z) (queue_of levels from z))) (queue_of levels to z)) (eq-eqb to to refl)

    from_here : queue_of now from x ≡ queue_of levels from x
    from_here = at_from x small ∙ ap (λ s. without_head s (queue_of levels from x)) (upto_later leave n x le)

    to_here : queue_of now to x ≡ queue_of levels to x
    to_here = at_to x small ∙ ap (λ s. joined (queue_of levels to x) (if_leaves s (queue_of levels from x))) (upto_later leave n x le)

    pub straight_head : head (queue_of now from x) ≡ head (queue_of levels from x)
    straight_head = ap head from_here

    pub one_straight : (l z : ℕ) → z < 64 → passed_straight from to x now l z ≡ moved_straight (upto leave (x + 1)) from to levels l z
    one_straight l z zs = by_tests (l == from) (l == to) (z == x) refl refl refl
      where
        by_tests : (f t s : Bool) → (l == from) ≡ f → (l == to) ≡ t → (z == x) ≡ s
            → cond (f && s) (without_head true (queue_of now from x)) (cond (t && s) (joined (queue_of now to x) (head (queue_of now from x))) (queue_of now l z))
            ≡ cond f (without_head (upto leave (x + 1) z) (queue_of levels from z)) (cond t (joined (queue_of levels to z) (if_leaves (upto leave (x + 1) z) (queue_of levels from z))) (queue_of levels l z))
        by_tests true true s e c g = absurd (apart (sym (eqb-true l from e) ∙ eqb-true l to c))
        by_tests true false true e c g =
            let same : z ≡ x = eqb-true z x g in
            ap (without_head true) from_here ∙ sym (ap (λ s. without_head s (queue_of levels from x)) (upto_here leave x here))
            ∙ ap (λ y. without_head (upto leave (x + 1) y) (queue_of levels from y)) (sym same)
        by_tests true false false e c g =
            ap (λ n. queue_of now n z) (eqb-true l from e) ∙ at_from z zs
            ∙ ap (λ s. without_head s (queue_of levels from z)) (sym (upto_other leave n x z le none (λ same. false_true (sym g ∙ eq-eqb z x same))))
        by_tests false true true e c g =
            let same : z ≡ x = eqb-true z x g in
            ap (λ q. joined q (head (queue_of now from x))) to_here ∙ ap (λ q. joined (queue_of levels to x) (head q)) from_here
            ∙ sym (ap (λ s. joined (queue_of levels to x) (if_leaves s (queue_of levels from x))) (upto_here leave x here))
            ∙ ap (λ y. joined (queue_of levels to y) (if_leaves (upto leave (x + 1) y) (queue_of levels from y))) (sym same)
        by_tests false true false e c g =
            ap (λ n. queue_of now n z) (eqb-true l to c) ∙ at_to z zs
            ∙ ap (λ s. joined (queue_of levels to z) (if_leaves s (queue_of levels from z))) (sym (upto_other leave n x z le none (λ same. false_true (sym g ∙ eq-eqb z x same))))
        by_tests false false s e c g = done l z zs ∙ ap (λ t. cond t (without_head (upto leave n z) (queue_of levels from z)) (cond (l == to) (joined (queue_of levels to z) (if_leaves (upto leave n z) (queue_of levels from z))) (queue_of levels l z))) e ∙ ap (λ t. cond t (joined (queue_of levels to z) (if_leaves (upto leave n z) (queue_of levels from z))) (queue_of levels l z)) c

-- a head that has its turn yet is where it was
pub straight_still_there : {T : Type 0} (from to : ℕ) (levels now : List (Queues T)) (leave n x : ℕ) → x < 64 → n ≤ x
    → ((l z : ℕ) → z < 64 → queue_of now l z ≡ moved_straight (upto leave n) from to levels l z) → queue_of now from x ≡ queue_of levels from x
straight_still_there from to levels now leave n x small le done =
    done from x small
    ∙ ap (λ t. cond t (without_head (upto leave n x) (queue_of levels from x)) (cond (from == to) (joined (queue_of levels to x) (if_leaves (upto leave n x) (queue_of levels from x))) (queue_of levels from x))) (eq-eqb from from refl)
    ∙ ap (λ s. without_head s (queue_of levels from x)) (upto_later leave n x le)
