-- What equal states say to a query of a reply.
use Rattle.std.proofs.Common.{◌≡◌, ℕ, zero, suc, ◌+◌, ◌-◌, ◌<◌, ◌≤◌, ◌∙◌, ◌⊎◌, sym, ap, subst, refl, arith, cond, inl, inr, Bool, Option, None, Some}
use Rattle.std.specs.Prelude.{nat_lt}
use Rattle.std.proofs.lemmas.Bool.{cases_lt, lt-ltb}
use Rattle.machine_cells.specs.declared.state.MachineState.{MachineState}
use Rattle.run_queries.specs.Answers.{has_sent, issued, word_got, first_reply}

-- what holds at a cycle, and from each cycle to the next one, holds at a later one
along : (P : ℕ → Type 0) (from to : ℕ) → from ≤ to → P from → ((t : ℕ) → from ≤ t → t < to → P t → P (suc t)) → P to
along P from zero h base step = let e : from ≡ zero = omega arith in subst P e base
along P from (suc to) h base step = elim (cases_lt to from) [
  | inl last ↦ let e : from ≡ suc to = omega arith in subst P e base
  | inr le ↦ step to le (omega arith) (along P from to le base (λ t l k. step t l (omega arith)))
]

-- one cycle more with a state
sent_more : (b : Bool) (before from t : ℕ) → from ≤ t → before + cond b (t - from) 0 + cond b 1 0 ≡ before + cond b (suc t - from) 0
sent_more b before from t h = grind arith

module _ (at : ℕ → Option MachineState) where
  -- the references issued in some cycles with one state
  pub issued_until : (from to : ℕ) → from ≤ to → ((t : ℕ) → from ≤ t → t < to → at t ≡ at from) → issued at to ≡ issued at from + cond (has_sent (at from)) (to - from) 0
  issued_until from to h same =
      along (λ t. issued at t ≡ issued at from + cond (has_sent (at from)) (t - from) 0) from to h (grind arith)
      (λ t l k e. rw (same t l k, e) (sent_more (has_sent (at from)) (issued at from) from t l))

  -- as soon as they are enough, or all cycles were passed, it is known whether they are enough
  pub count_tells : (issue count cycle end : ℕ) → count ≡ issued at cycle → cycle ≤ end → (issue < count) ⊎ (cycle ≡ end) → nat_lt issue count ≡ nat_lt issue (issued at end)
  count_tells issue count cycle end is up (inl h) =
      let rises : issued at cycle ≤ issued at end = along (λ t. issued at cycle ≤ issued at t) cycle end up (omega arith) (λ t l k e. omega (arith, e)) in
      lt-ltb issue count h ∙ sym (lt-ltb issue (issued at end) (omega (arith, rises, is, h)))
  count_tells issue count cycle end is up (inr e) = ap (nat_lt issue) (is ∙ ap (issued at) e)

  -- no reply in some cycles with one state
  pub no_reply_until : (i from to : ℕ) → first_reply at i from ≡ None → word_got i (at from) ≡ None → from ≤ to → ((t : ℕ) → from ≤ t → t < to → at t ≡ at from) → first_reply at i to ≡ None
  no_reply_until i from to h k l same = along (λ t. first_reply at i t ≡ None) from to l h (λ t u v e. rw (e, same t u v, k) refl)

  -- the first reply stays the first
  pub reply_stays : (i n end w : ℕ) → first_reply at i n ≡ None → word_got i (at n) ≡ Some w → n < end → first_reply at i end ≡ Some (record { cycle = n; word = w })
  reply_stays i n end w h k lt = along (λ t. first_reply at i t ≡ Some (record { cycle = n; word = w })) (suc n) end (omega arith) (rw (h, k) refl) (λ t l u e. rw e refl)

-- look-ups in equal states
pub same_issued : (at other : ℕ → Option MachineState) (n : ℕ) → ((t : ℕ) → t < n → at t ≡ other t) → issued at n ≡ issued other n
same_issued at other n h = along (λ t. issued at t ≡ issued other t) zero n (omega arith) refl (λ t l k e. rw (e, h t k) refl)

pub same_reply : (at other : ℕ → Option MachineState) (i n : ℕ) → ((t : ℕ) → t < n → at t ≡ other t) → first_reply at i n ≡ first_reply other i n
same_reply at other i n h = along (λ t. first_reply at i t ≡ first_reply other i t) zero n (omega arith) refl (λ t l k e. rw (e, h t k) refl)
