-- Seeking a reply slice by slice.
use Rattle.std.proofs.Common.{◌≡◌, ℕ, zero, suc, ◌+◌, ◌*◌, ◌<◌, ◌≤◌, sym, ap, subst, refl, arith, inl, inr, Bool, true, false, cond, Option, None, Some, Result, Ok, Err, List, [], ◌∷◌}
use Rattle.std.specs.Prelude.{nat_lt}
use Rattle.std.proofs.Math.Nat.{min-le_right}
use Rattle.std.proofs.lemmas.Bool.{cases_lt, lt-ltb, ltb-true}
use Rattle.cell_table.specs.Settling.{IsClockSpent}
use Rattle.cell_table.specs.declared.given.SettleFault.{SettleFault}
use Rattle.omega_net.specs.Numbers.{components}
use Rattle.machine_cells.specs.declared.state.MachineState.{MachineState}
use Rattle.machine_cells.specs.Run.{run}
use Rattle.machine_cells.specs.Runs.{state_in}
use Rattle.project_book.specs.Project.{Project}
use Rattle.std.specs.Option.{option_map}
use Rattle.run_queries.specs.Answers.{issued, first_of, received, word_got, first_reply, answer}
use Rattle.run_queries.specs.Queries.{bad_query}
use Rattle.run_queries.specs.declared.query.Query.TheVariants.{Reply}
use Rattle.run_queries.specs.declared.body.Body.TheVariants.{Reply as Replied}
use Rattle.run_queries.specs.declared.body.Received.{Received}
use Rattle.run_queries.proofs.Stretches.{same_issued, same_reply}
use Rattle.bench_core.specs.Shown.{Shown, project_of, held}
use Rattle.bench_core.specs.Asks.{HoldsRunTo}
use Rattle.bench_core.specs.Settled.{IsSettledFrom, IsPartlySettledFrom, IsSpentTo}
use Rattle.bench_core.specs.Seeking.{AreSlices, SeeksAs, first_slice, slice_of, begins_at, replied_in, replied_by}
use Rattle.bench_core.proofs.Looking.{run_held}

-- what states that hold the run tell is what the run tells
pub replied_is : (b : Shown) (p n last : ℕ) → p < components (project_of b).k → last ≤ (project_of b).horizon → HoldsRunTo b last
    → replied_in (λ t. held b.table t p) n (suc last) ≡ replied_by (project_of b) p n last
replied_is b p n last there within ready =
    let all : (t : ℕ) → t < suc last → held b.table t p ≡ state_in (run (project_of b)) t p = λ t lt. run_held b last t p ready (omega arith) (omega arith) there in
    rw (same_issued (λ t. held b.table t p) (λ t. state_in (run (project_of b)) t p) (suc last) all, same_reply (λ t. held b.table t p) (λ t. state_in (run (project_of b)) t p) n (suc last) all) refl

module _ (at : ℕ → Option MachineState) where
  issued_rises : (t u : ℕ) → t ≤ u → issued at t ≤ issued at u
  issued_rises t zero le = let e : t ≡ zero = omega arith in subst (λ n. issued at n ≤ issued at zero) (sym e) (omega arith)
  issued_rises t (suc u) le = elim (cases_lt u t) [
    | inl last ↦ let e : t ≡ suc u = omega arith in subst (λ n. issued at n ≤ issued at (suc u)) (sym e) (omega arith)
    | inr before ↦ let before_it = issued_rises t u before in omega (arith, before_it)
  ]

  first_stays : (n t u : ℕ) (r : Received) → t ≤ u → first_reply at n t ≡ Some r → first_reply at n u ≡ Some r
  first_stays n t zero r le is = let e : t ≡ zero = omega arith in subst (λ m. first_reply at n m ≡ Some r) e is
  first_stays n t (suc u) r le is = elim (cases_lt u t) [
    | inl last ↦ let e : t ≡ suc u = omega arith in subst (λ m. first_reply at n m ≡ Some r) e is
    | inr before ↦ rw (first_stays n t u r before is) refl
  ]

  first_within : (n t : ℕ) (r : Received) → first_reply at n t ≡ Some r → r.cycle < t
  first_within n zero r is = absurd cc
  first_within n (suc t) r is = by_first (first_reply at n t) refl is (λ x e. first_within n t x e)
    where
      by_first : (o : Option Received) → first_reply at n t ≡ o → first_of o (received n t (at t)) ≡ Some r → ((x : Received) → first_reply at n t ≡ Some x → x.cycle < t) → r.cycle < suc t
      by_first (Some x) e k before = let same : x ≡ r = cc in let b = before x e in omega (arith, ap (λ (y : Received). y.cycle) same, b)
      by_first None e k before = by_word (word_got n (at t)) k
        where
          by_word : (w : Option ℕ) → option_map (λ x. record { cycle = t; word = x }) w ≡ Some r → r.cycle < suc t
          by_word None j = absurd cc
          by_word (Some x) j = let same : record { cycle = t; word = x } ≡ r = cc in omega (arith, ap (λ (y : Received). y.cycle) same)

  -- what is told is told by the states of more cycles too
  pub told_parts : (n t : ℕ) (r : Received) → replied_in at n t ≡ Some r → (nat_lt n (issued at t) ≡ true) × (first_reply at n t ≡ Some r)
  told_parts n t r is = by_case (nat_lt n (issued at t)) refl is
    where
      by_case : (b : Bool) → nat_lt n (issued at t) ≡ b → cond b (first_reply at n t) None ≡ Some r → (nat_lt n (issued at t) ≡ true) × (first_reply at n t ≡ Some r)
      by_case true e k = (e, k)
      by_case false e k = cc

  pub told_within : (n t : ℕ) (r : Received) → replied_in at n t ≡ Some r → r.cycle < t
  told_within n t r is = first_within n t r (told_parts n t r is).1

  pub told_later : (n t u : ℕ) (r : Received) → t ≤ u → replied_in at n t ≡ Some r → replied_in at n u ≡ Some r
  told_later n t u r le is =
      let parts = told_parts n t r is in
      let rises = issued_rises t u le in
      let few = ltb-true n (issued at t) parts.0 in
      rw (lt-ltb n (issued at u) (omega (arith, rises, few)), first_stays n t u r le parts.1) refl

-- where to look first is a cycle of the run
pub begins_within : (b : Shown) (p n : ℕ) → begins_at b p n ≤ (project_of b).horizon
begins_within b p n = by_told (replied_in (λ t. held b.table t p) n (suc (project_of b).horizon)) refl
  where
    by_told : (o : Option Received) → replied_in (λ t. held b.table t p) n (suc (project_of b).horizon) ≡ o → slice_of o (project_of b).horizon ≤ (project_of b).horizon
    by_told (Some r) e = let before = told_within (λ t. held b.table t p) n (suc (project_of b).horizon) r e in omega (arith, before)
    by_told None e = min-le_right first_slice (project_of b).horizon

-- a slice before those of a further search
module _ (p n last u : ℕ) (d mid next : Shown) (none : replied_by (project_of d) p n last ≡ None) (short : u ≤ 2 * last + 1) (same : project_of mid ≡ project_of d) (first : IsSettledFrom (Some last) d mid) where
  slices_more : (ts : List ℕ) (end : ℕ) → AreSlices (project_of mid) p n (u ∷ ts) end → AreSlices (project_of d) p n (last ∷ u ∷ ts) end
  slices_more ts end are = (none, short, subst (λ P. AreSlices P p n (u ∷ ts) end) same are)

  pub seeks_more : (r : Result (Option Received) SettleFault) → SeeksAs p n u mid next r → SeeksAs p n last d next r
  seeks_more (Ok (Some r)) s = (
    u ∷ s.0,
    s.1,
    slices_more s.0 s.1 s.2,
    subst (λ P. s.1 ≤ P.horizon) same s.3,
    (mid, first, s.4),
    subst (λ P. replied_by P p n s.1 ≡ Some r) same s.5,
  )
  seeks_more (Ok None) s = (u ∷ s.0, subst (λ P. AreSlices P p n (last ∷ u ∷ s.0) P.horizon) same (subst (λ P. replied_by P p n last ≡ None) (sym same) none, short, s.1), (mid, first, s.2))
  seeks_more (Err fault) s = (u ∷ s.0, s.1, slices_more s.0 s.1 s.2, subst (λ P. s.1 ≤ P.horizon) same s.3, (mid, first, s.4), s.5)

-- where the first slice is the last one
module _ (p n last : ℕ) (d next : Shown) (within : last ≤ (project_of d).horizon) where
  pub seeks_found : (r : Received) → IsSettledFrom (Some last) d next → replied_by (project_of d) p n last ≡ Some r → SeeksAs p n last d next (Ok (Some r))
  seeks_found r first told = ([], last, refl, within, (next, first, refl), told)

  pub seeks_none : last ≡ (project_of d).horizon → IsSettledFrom (Some last) d next → SeeksAs p n last d next (Ok None)
  seeks_none whole first = ([], whole, (next, first, refl))

  pub seeks_fault : (fault : SettleFault) → IsPartlySettledFrom (Some last) d next → (IsClockSpent fault → IsSpentTo (Some last) next) → SeeksAs p n last d next (Err fault)
  seeks_fault fault first spent = ([], last, refl, within, first, spent)

-- what the run tells up to a cycle is what is answered
pub told_is_answer : (P : Project) (p n last : ℕ) (r : Received) → bad_query P (Reply p n) ≡ None → last ≤ P.horizon → replied_by P p n last ≡ Some r → answer P (Reply p n) ≡ Ok (Replied (Some r))
told_is_answer P p n last r good within is =
    let at : ℕ → Option MachineState = λ t. state_in (run P) t p in
    let parts = told_parts at n (suc P.horizon) r (told_later at n (suc last) (suc P.horizon) r (omega (arith, within)) is) in
    rw (good, parts.0, parts.1) refl
