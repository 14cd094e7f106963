-- Requests that move from stage to stage, the last stage first.
use Rattle.std.proofs.Common.{◌≡◌, ℕ, zero, suc, ◌+◌, ◌-◌, ◌<◌, ◌≤◌, Bool, true, false, cond, List, refl, ap, sym, subst, ◌∙◌, ◌⊎◌, inl, inr, arith}
use Rattle.std.specs.Prelude.{◌==◌, nat_lt, slice_index_or, IsSome}
use Rattle.std.proofs.lemmas.Bool.{cases_lt, eqb-true, eq-eqb, ne_eqb, lt-ltb, le-ltb}
use Rattle.arrayvec.specs.ArrayVec.{ArrayVec}
use Rattle.omega_net.specs.Queues.{head, without_head, joined}
use Rattle.omega_net.specs.Wires.{bit}
use Rattle.flat_row.specs.Labels.{port}
use Rattle.flat_row.specs.Masks.{has}
use Rattle.flat_row.specs.Queues.{Queues}
use Rattle.flat_row.specs.Row.{queue_of}
use Rattle.flat_row.specs.Rows.{if_leaves}
use Rattle.flat_row.specs.Moving.{AllWait, sent_to, arrival, moved, moved_straight, leaves_forth, forth_after}
use Rattle.flat_row.proofs.Carrying.{port_small}

not_both : false ≡ true → ⊥
not_both e = cc

after : (l k : ℕ) → k ≤ l → l < k + 2 → (l == k) ≡ false → l ≡ suc k
after l k le within e = elim (cases_lt k l) [
  | inl lt ↦ omega (arith, lt, within)
  | inr ge ↦ absurd (not_both (sym e ∙ eq-eqb l k (omega (arith, le, ge))))
]

module _ {T : Type 0} (route : T → ℕ) (k : ℕ) (forth : List ℕ) (enter : ℕ) (levels : List (Queues T)) where
  -- what levels hold when the requests into modules, and those of the stages from s on, have moved
  abbrev pub partly : ℕ → ℕ → ℕ → ArrayVec T
  partly s l z =
      cond (nat_lt l s) (queue_of levels l z)
      (cond (l == s) (without_head (leaves_forth k forth enter l z) (queue_of levels l z)) (forth_after route k forth enter levels l z))

  before : (s l z : ℕ) → l < s → partly s l z ≡ queue_of levels l z
  before s l z h = ap (λ t. cond t (queue_of levels l z) (cond (l == s) (without_head (leaves_forth k forth enter l z) (queue_of levels l z)) (forth_after route k forth enter levels l z))) (lt-ltb l s h)

  here : (s z : ℕ) → partly s s z ≡ without_head (leaves_forth k forth enter s z) (queue_of levels s z)
  here s z =
      ap (λ t. cond t (queue_of levels s z) (cond (s == s) (without_head (leaves_forth k forth enter s z) (queue_of levels s z)) (forth_after route k forth enter levels s z))) (le-ltb s s (omega arith))
      ∙ ap (λ t. cond t (without_head (leaves_forth k forth enter s z) (queue_of levels s z)) (forth_after route k forth enter levels s z)) (eq-eqb s s refl)

  behind : (s l z : ℕ) → s < l → partly s l z ≡ forth_after route k forth enter levels l z
  behind s l z h =
      ap (λ t. cond t (queue_of levels l z) (cond (l == s) (without_head (leaves_forth k forth enter l z) (queue_of levels l z)) (forth_after route k forth enter levels l z))) (le-ltb l s (omega (arith, h)))
      ∙ ap (λ t. cond t (without_head (leaves_forth k forth enter l z) (queue_of levels l z)) (forth_after route k forth enter levels l z)) (ne_eqb l s (λ e. omega (arith, e, h)))

  -- the set that leaves a level before a stage
  at_stage : (s z : ℕ) → s < k → leaves_forth k forth enter s z ≡ has (slice_index_or forth s 0) z
  at_stage s z lt = ap (λ t. cond t (has enter z) (has (slice_index_or forth s 0) z)) (ne_eqb s k (λ e. omega (arith, e, lt)))

  at_end : (z : ℕ) → leaves_forth k forth enter k z ≡ has enter z
  at_end z = ap (λ t. cond t (has enter z) (has (slice_index_or forth k 0) z)) (eq-eqb k k refl)

  -- at first, with the requests into modules
  pub entered : (l z : ℕ) → l < k + 2 → moved_straight (has enter) k (k + 1) levels l z ≡ partly k l z
  entered l z within = by_place (cases_lt l k)
    where
      by_place : (l < k) ⊎ (k ≤ l) → moved_straight (has enter) k (k + 1) levels l z ≡ partly k l z
      by_place (inl lt) =
          ap (λ t. cond t (without_head (has enter z) (queue_of levels k z)) (cond (l == k + 1) (joined (queue_of levels (k + 1) z) (if_leaves (has enter z) (queue_of levels k z))) (queue_of levels l z))) (ne_eqb l k (λ e. omega (arith, e, lt)))
          ∙ ap (λ t. cond t (joined (queue_of levels (k + 1) z) (if_leaves (has enter z) (queue_of levels k z))) (queue_of levels l z)) (ne_eqb l (k + 1) (λ e. omega (arith, e, lt)))
          ∙ sym (before k l z lt)
      by_place (inr le) = by_test (l == k) refl
        where
          by_test : (t : Bool) → (l == k) ≡ t → moved_straight (has enter) k (k + 1) levels l z ≡ partly k l z
          by_test true e =
              let same : l ≡ k = eqb-true l k e in
              ap (λ t. cond t (without_head (has enter z) (queue_of levels k z)) (cond (l == k + 1) (joined (queue_of levels (k + 1) z) (if_leaves (has enter z) (queue_of levels k z))) (queue_of levels l z))) e
              ∙ ap (λ t. without_head t (queue_of levels k z)) (sym (at_end z)) ∙ sym (here k z) ∙ ap (λ n. partly k n z) (sym same)
          by_test false e =
              let next : l ≡ suc k = after l k le within e in
              ap (λ t. cond t (without_head (has enter z) (queue_of levels k z)) (cond (l == k + 1) (joined (queue_of levels (k + 1) z) (if_leaves (has enter z) (queue_of levels k z))) (queue_of levels l z))) e
              ∙ ap (λ t. cond t (joined (queue_of levels (k + 1) z) (if_leaves (has enter z) (queue_of levels k z))) (queue_of levels l z)) (eq-eqb l (k + 1) (omega (arith, next)))
              ∙ ap (λ n. joined (queue_of levels n z) (if_leaves (has enter z) (queue_of levels k z))) (one k)
              ∙ sym (ap (λ t. cond t (joined (queue_of levels (suc k) z) (if_leaves (has enter z) (queue_of levels k z))) (others)) (eq-eqb k k refl))
              ∙ sym (behind k (suc k) z (omega arith)) ∙ ap (λ n. partly k n z) (sym next)
            where
              others : ArrayVec T
              others =
                  joined (joined (without_head (leaves_forth k forth enter (suc k) z) (queue_of levels (suc k) z)) (arrival route (k - 1 - k) (has (slice_index_or forth k 0)) levels k 0 z))
                  (arrival route (k - 1 - k) (has (slice_index_or forth k 0)) levels k 1 z)

              one : (n : ℕ) → n + 1 ≡ suc n
              one n = omega arith

  -- one stage more
  module _ (s : ℕ) (lt : s < k) (few : k ≤ 6) (now : List (Queues T)) (done : (l z : ℕ) → l < k + 2 → z < 64 → queue_of now l z ≡ partly (suc s) l z) where
    abbrev leave : ℕ → Bool
    leave = has (slice_index_or forth s 0)

    abbrev b : ℕ
    b = k - 1 - s

    untouched : (z : ℕ) → z < 64 → queue_of now s z ≡ queue_of levels s z
    untouched z small = done s z (omega (arith, lt)) small ∙ before (suc s) s z (omega arith)

    comes_alike : (i z : ℕ) → i < 2 → z < 64 → arrival route b leave now s i z ≡ arrival route b leave levels s i z
    comes_alike i z il small = ap (λ q. sent_to route b (bit b z) (if_leaves (leave (port b i z)) q)) (untouched (port b i z) (port_small b z i (omega (arith, few, lt)) small il))

    pub one_stage : (l z : ℕ) → l < k + 2 → z < 64 → moved route b leave s (s + 1) now l z ≡ partly s l z
    one_stage l z within small = by_tests (l == s) (l == s + 1) refl refl
      where
        by_tests : (f t : Bool) → (l == s) ≡ f → (l == s + 1) ≡ t → moved route b leave s (s + 1) now l z ≡ partly s l z
        by_tests true t e c =
            let same : l ≡ s = eqb-true l s e in
            ap (λ r. cond r (without_head (leave z) (queue_of now s z)) (cond (l == s + 1) (joined (joined (queue_of now (s + 1) z) (arrival route b leave now s 0 z)) (arrival route b leave now s 1 z)) (queue_of now l z))) e
            ∙ ap (without_head (leave z)) (untouched z small)
            ∙ ap (λ r. without_head r (queue_of levels s z)) (sym (at_stage s z lt))
            ∙ sym (here s z) ∙ ap (λ n. partly s n z) (sym same)
        by_tests false true e c =
            let next : l ≡ suc s = omega (arith, eqb-true l (s + 1) c) in
            ap (λ r. cond r (without_head (leave z) (queue_of now s z)) (cond (l == s + 1) (joined (joined (queue_of now (s + 1) z) (arrival route b leave now s 0 z)) (arrival route b leave now s 1 z)) (queue_of now l z))) e
            ∙ ap (λ r. cond r (joined (joined (queue_of now (s + 1) z) (arrival route b leave now s 0 z)) (arrival route b leave now s 1 z)) (queue_of now l z)) c
            ∙ ap (λ n. joined (joined (queue_of now n z) (arrival route b leave now s 0 z)) (arrival route b leave now s 1 z)) (one s)
            ∙ ap (λ q. joined (joined q (arrival route b leave now s 0 z)) (arrival route b leave now s 1 z)) (done (suc s) z (omega (arith, lt)) small ∙ here (suc s) z)
            ∙ ap (λ o. joined (joined (without_head (leaves_forth k forth enter (suc s) z) (queue_of levels (suc s) z)) o) (arrival route b leave now s 1 z)) (comes_alike 0 z (omega arith) small)
            ∙ ap (λ o. joined (joined (without_head (leaves_forth k forth enter (suc s) z) (queue_of levels (suc s) z)) (arrival route b leave levels s 0 z)) o) (comes_alike 1 z (omega arith) small)
            ∙ sym (
            ap (λ r. cond r (joined (queue_of levels (suc k) z) (if_leaves (has enter z) (queue_of levels k z)))
            (joined (joined (without_head (leaves_forth k forth enter (suc s) z) (queue_of levels (suc s) z)) (arrival route b leave levels s 0 z)) (arrival route b leave levels s 1 z))) (ne_eqb s k (λ e. omega (arith, e, lt)))
            )
            ∙ sym (behind s (suc s) z (omega arith)) ∙ ap (λ n. partly s n z) (sym next)
          where
            one : (n : ℕ) → n + 1 ≡ suc n
            one n = omega arith
        by_tests false false e c =
            ap (λ r. cond r (without_head (leave z) (queue_of now s z)) (cond (l == s + 1) (joined (joined (queue_of now (s + 1) z) (arrival route b leave now s 0 z)) (arrival route b leave now s 1 z)) (queue_of now l z))) e
            ∙ ap (λ r. cond r (joined (joined (queue_of now (s + 1) z) (arrival route b leave now s 0 z)) (arrival route b leave now s 1 z)) (queue_of now l z)) c
            ∙ done l z within small
            ∙ by_place (cases_lt l s)
          where
            by_place : (l < s) ⊎ (s ≤ l) → partly (suc s) l z ≡ partly s l z
            by_place (inl h) = before (suc s) l z (omega (arith, h)) ∙ sym (before s l z h)
            by_place (inr h) =
                let past : suc s < l = past_both (cases_lt (suc s) l) in
                behind (suc s) l z past ∙ sym (behind s l z (omega (arith, past)))
              where
                past_both : (suc s < l) ⊎ (l ≤ suc s) → suc s < l
                past_both (inl g) = g
                past_both (inr g) = elim (cases_lt s l) [
                  | inl o ↦ absurd (not_both (sym c ∙ eq-eqb l (s + 1) (omega (arith, g, o))))
                  | inr o ↦ absurd (not_both (sym e ∙ eq-eqb l s (omega (arith, h, o))))
                ]

    -- what leaves the stage waits there still
    pub waits_now : AllWait k forth enter levels → (x : ℕ) → x < 64 → leave x ≡ true → IsSome (head (queue_of now s x))
    waits_now all x small has_it = subst (λ q. IsSome (head q)) (sym (untouched x small)) (all s x (omega (arith, lt)) small (at_stage s x lt ∙ has_it))

  -- at last
  pub all_forth : (l z : ℕ) → partly 0 l z ≡ forth_after route k forth enter levels l z
  all_forth zero z = here 0 z
  all_forth (suc l) z = behind 0 (suc l) z (omega arith)

  -- the same by how many stages are done, from the last one back
  module _ (done : ℕ) (lt : done < k) (few : k ≤ 6) (s by : ℕ) (is : s ≡ k - 1 - done) (at : by ≡ k - 1 - s) (now new : List (Queues T))
      (before_it : (l z : ℕ) → l < k + 2 → z < 64 → queue_of now l z ≡ partly (k - done) l z) where
    from_next : (l z : ℕ) → l < k + 2 → z < 64 → queue_of now l z ≡ partly (suc s) l z
    from_next l z within small = let e : k - done ≡ suc s = omega (arith, is, lt) in before_it l z within small ∙ ap (λ n. partly n l z) e

    s_small : s < k
    s_small = omega (arith, is, lt)

    pub forth_more : ((l z : ℕ) → z < 64 → queue_of new l z ≡ moved route by (has (slice_index_or forth s 0)) s (s + 1) now l z)
        → (l z : ℕ) → l < k + 2 → z < 64 → queue_of new l z ≡ partly (k - (done + 1)) l z
    forth_more gone l z within small =
        let e : s ≡ k - (done + 1) = omega (arith, is, lt) in
        gone l z small ∙ ap (λ b. moved route b (has (slice_index_or forth s 0)) s (s + 1) now l z) at
        ∙ one_stage s s_small few now from_next l z within small ∙ ap (λ n. partly n l z) e

    pub forth_waits : AllWait k forth enter levels → (x : ℕ) → x < 64 → has (slice_index_or forth s 0) x ≡ true → IsSome (head (queue_of now s x))
    forth_waits all x small has_it = waits_now s s_small few now from_next all x small has_it

  pub enter_waits : AllWait k forth enter levels → (x : ℕ) → x < 64 → has enter x ≡ true → IsSome (head (queue_of levels k x))
  enter_waits all x small has_it = all k x (omega arith) small (at_end x ∙ has_it)
