-- Replies that move from stage to stage, behind the first stage first.
use Rattle.std.proofs.Common.{◌≡◌, ℕ, zero, suc, ◌+◌, ◌-◌, ◌<◌, ◌≤◌, Bool, true, false, cond, List, refl, ap, sym, subst, ◌∙◌, ◌⊎◌, inl, inr, arith}
use Rattle.std.specs.Prelude.{◌==◌, nat_lt, slice_index_or, IsSome}
use Rattle.std.proofs.lemmas.Bool.{cases_lt, eqb-true, eq-eqb, ne_eqb, lt-ltb, le-ltb}
use Rattle.arrayvec.specs.ArrayVec.{ArrayVec}
use Rattle.omega_net.specs.Queues.{head, without_head, joined}
use Rattle.omega_net.specs.Wires.{bit}
use Rattle.flat_row.specs.Labels.{port}
use Rattle.flat_row.specs.Masks.{has}
use Rattle.flat_row.specs.Queues.{Queues}
use Rattle.flat_row.specs.Row.{queue_of}
use Rattle.flat_row.specs.Rows.{if_leaves}
use Rattle.flat_row.specs.Moving.{AllWaitBack, sent_to, arrival, moved, left_back, back_after}
use Rattle.flat_row.proofs.Carrying.{port_small}

module _ {T : Type 0} (route : T → ℕ) (k : ℕ) (back : List ℕ) (levels : List (Queues T)) where
  -- what levels hold when the replies behind the stages before s have moved
  abbrev pub partly_back : ℕ → ℕ → ℕ → ArrayVec T
  partly_back s l z =
      cond (nat_lt l s) (back_after route k back levels l z)
      (cond (l == s) (left_back back levels l z) (queue_of levels l z))

  before : (s l z : ℕ) → l < s → partly_back s l z ≡ back_after route k back levels l z
  before s l z h = ap (λ t. cond t (back_after route k back levels l z) (cond (l == s) (left_back back levels l z) (queue_of levels l z))) (lt-ltb l s h)

  here : (s z : ℕ) → partly_back s s z ≡ left_back back levels s z
  here s z =
      ap (λ t. cond t (back_after route k back levels s z) (cond (s == s) (left_back back levels s z) (queue_of levels s z))) (le-ltb s s (omega arith))
      ∙ ap (λ t. cond t (left_back back levels s z) (queue_of levels s z)) (eq-eqb s s refl)

  behind : (s l z : ℕ) → s < l → partly_back s l z ≡ queue_of levels l z
  behind s l z h =
      ap (λ t. cond t (back_after route k back levels l z) (cond (l == s) (left_back back levels l z) (queue_of levels l z))) (le-ltb l s (omega (arith, h)))
      ∙ ap (λ t. cond t (left_back back levels l z) (queue_of levels l z)) (ne_eqb l s (λ e. omega (arith, e, h)))

  -- at first, and at last
  pub none_back : (l z : ℕ) → queue_of levels l z ≡ partly_back 0 l z
  none_back zero z = sym (here 0 z)
  none_back (suc l) z = sym (behind 0 (suc l) z (omega arith))

  pub all_back : (l z : ℕ) → l < k + 1 → partly_back k l z ≡ back_after route k back levels l z
  all_back l z within = by_place (cases_lt l k)
    where
      by_place : (l < k) ⊎ (k ≤ l) → partly_back k l z ≡ back_after route k back levels l z
      by_place (inl h) = before k l z h
      by_place (inr h) =
          let same : l ≡ k = omega (arith, h, within) in
          ap (λ n. partly_back k n z) same ∙ here k z ∙ ap (λ n. left_back back levels n z) (sym same)
          ∙ sym (ap (λ t. cond t (joined (joined (left_back back levels l z) (arrival route (k - 1 - l) (has (slice_index_or back l 0)) levels (suc l) 0 z)) (arrival route (k - 1 - l) (has (slice_index_or back l 0)) levels (suc l) 1 z)) (left_back back levels l z)) (le-ltb l k h))

  -- one stage more
  module _ (s : ℕ) (lt : s < k) (few : k ≤ 6) (by : ℕ) (at : by ≡ k - 1 - s) (now new : List (Queues T)) (done : (l z : ℕ) → l < k + 1 → z < 64 → queue_of now l z ≡ partly_back s l z) where
    abbrev leave : ℕ → Bool
    leave = has (slice_index_or back s 0)

    abbrev b : ℕ
    b = k - 1 - s

    untouched : (z : ℕ) → z < 64 → queue_of now (suc s) z ≡ queue_of levels (suc s) z
    untouched z small = done (suc s) z (omega (arith, lt)) small ∙ behind s (suc s) z (omega arith)

    comes_alike : (i z : ℕ) → i < 2 → z < 64 → arrival route b leave now (suc s) i z ≡ arrival route b leave levels (suc s) i z
    comes_alike i z il small = ap (λ q. sent_to route b (bit b z) (if_leaves (leave (port b i z)) q)) (untouched (port b i z) (port_small b z i (omega (arith, few, lt)) small il))

    -- what waits behind the stage waits there still
    pub back_waits : AllWaitBack k back levels → (x : ℕ) → x < 64 → leave x ≡ true → IsSome (head (queue_of now (s + 1) x))
    back_waits all x small has_it = subst (λ q. IsSome (head q)) (sym (ap (λ n. queue_of now n x) (plus s) ∙ untouched x small)) (all s x lt small has_it)
      where
        plus : (n : ℕ) → n + 1 ≡ suc n
        plus n = omega arith

    one_back : (l z : ℕ) → l < k + 1 → z < 64 → moved route b leave (suc s) s now l z ≡ partly_back (suc s) l z
    one_back l z within small = by_tests (l == suc s) (l == s) refl refl
      where
        by_tests : (f t : Bool) → (l == suc s) ≡ f → (l == s) ≡ t → moved route b leave (suc s) s now l z ≡ partly_back (suc s) l z
        by_tests true t e c =
            let same : l ≡ suc s = eqb-true l (suc s) e in
            ap (λ r. cond r (without_head (leave z) (queue_of now (suc s) z)) (cond (l == s) (joined (joined (queue_of now s z) (arrival route b leave now (suc s) 0 z)) (arrival route b leave now (suc s) 1 z)) (queue_of now l z))) e
            ∙ ap (without_head (leave z)) (untouched z small)
            ∙ sym (here (suc s) z) ∙ ap (λ n. partly_back (suc s) n z) (sym same)
        by_tests false true e c =
            let same : l ≡ s = eqb-true l s c in
            ap (λ r. cond r (without_head (leave z) (queue_of now (suc s) z)) (cond (l == s) (joined (joined (queue_of now s z) (arrival route b leave now (suc s) 0 z)) (arrival route b leave now (suc s) 1 z)) (queue_of now l z))) e
            ∙ ap (λ r. cond r (joined (joined (queue_of now s z) (arrival route b leave now (suc s) 0 z)) (arrival route b leave now (suc s) 1 z)) (queue_of now l z)) c
            ∙ ap (λ q. joined (joined q (arrival route b leave now (suc s) 0 z)) (arrival route b leave now (suc s) 1 z)) (done s z (omega (arith, lt)) small ∙ here s z)
            ∙ ap (λ o. joined (joined (left_back back levels s z) o) (arrival route b leave now (suc s) 1 z)) (comes_alike 0 z (omega arith) small)
            ∙ ap (λ o. joined (joined (left_back back levels s z) (arrival route b leave levels (suc s) 0 z)) o) (comes_alike 1 z (omega arith) small)
            ∙ sym (ap (λ r. cond r (joined (joined (left_back back levels s z) (arrival route b leave levels (suc s) 0 z)) (arrival route b leave levels (suc s) 1 z)) (left_back back levels s z)) (lt-ltb s k lt))
            ∙ sym (before (suc s) s z (omega arith)) ∙ ap (λ n. partly_back (suc s) n z) (sym same)
        by_tests false false e c =
            ap (λ r. cond r (without_head (leave z) (queue_of now (suc s) z)) (cond (l == s) (joined (joined (queue_of now s z) (arrival route b leave now (suc s) 0 z)) (arrival route b leave now (suc s) 1 z)) (queue_of now l z))) e
            ∙ ap (λ r. cond r (joined (joined (queue_of now s z) (arrival route b leave now (suc s) 0 z)) (arrival route b leave now (suc s) 1 z)) (queue_of now l z)) c
            ∙ done l z within small
            ∙ by_place (cases_lt l s)
          where
            not_both : false ≡ true → ⊥
            not_both e = cc

            by_place : (l < s) ⊎ (s ≤ l) → partly_back s l z ≡ partly_back (suc s) l z
            by_place (inl h) = before s l z h ∙ sym (before (suc s) l z (omega (arith, h)))
            by_place (inr h) =
                let past : suc s < l = past_both (cases_lt (suc s) l) in
                behind s l z (omega (arith, past)) ∙ sym (behind (suc s) l z past)
              where
                past_both : (suc s < l) ⊎ (l ≤ suc s) → suc s < l
                past_both (inl g) = g
                past_both (inr g) = elim (cases_lt s l) [
                  | inl o ↦ absurd (not_both (sym e ∙ eq-eqb l (suc s) (omega (arith, g, o))))
                  | inr o ↦ absurd (not_both (sym c ∙ eq-eqb l s (omega (arith, h, o))))
                ]

    pub back_more : ((l z : ℕ) → z < 64 → queue_of new l z ≡ moved route by leave (s + 1) s now l z)
        → (l z : ℕ) → l < k + 1 → z < 64 → queue_of new l z ≡ partly_back (s + 1) l z
    back_more gone l z within small =
        gone l z small ∙ ap (λ n. moved route n leave (s + 1) s now l z) at
        ∙ ap (λ n. moved route b leave n s now l z) (plus s) ∙ one_back l z within small ∙ ap (λ n. partly_back n l z) (sym (plus s))
      where
        plus : (n : ℕ) → n + 1 ≡ suc n
        plus n = omega arith
