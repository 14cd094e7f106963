-- The logs of processors, cycle by cycle.
use Rattle.std.proofs.Common.{◌≡◌, ℕ, zero, suc, ◌+◌, ◌-◌, ◌<◌, ◌≤◌, ◌^◌, ◌⊎◌, inl, inr, Bool, true, false, List, [], ◌∷◌, ◌++◌, length, get_or, set, take, refl, sym, ap, ap₂, ◌∙◌, subst, Option, None, Some, append-nil, arith}
use Rattle.std.specs.Prelude.{◌==◌, nat_le, if◌then◌else◌, slice_get, option_to_list}
use Rattle.std.specs.List.{flat_map}
use Rattle.std.proofs.Math.ListN.{length-set}
use Rattle.std.proofs.lemmas.Bool.{eqb-true}
use Rattle.std.proofs.lemmas.Bool.Decides.{nat_tests}
use Rattle.std.proofs.lemmas.Grind.{flat_map-append}
use Rattle.std.proofs.lemmas.List.{get_or-set_same, length-append, take_more}
use Rattle.std.proofs.lemmas.Option.{slice_get-get_or, slice_get_within}
use Rattle.omega_net.specs.declared.message.Reply.{Reply}
use Rattle.omega_net.specs.Numbers.{lines}
use Rattle.omega_net.specs.Ports.{message_at}
use Rattle.omega_net.specs.Wires.{below}
use Rattle.project_book.specs.Project.{Project}
use Rattle.project_book.proofs.Leaving.{set_other}
use Rattle.machine_cells.specs.declared.state.MachineState.{MachineState}
use Rattle.machine_cells.specs.declared.state.MachineState.TheVariants.{Proc, Module, Low, Comb}
use Rattle.machine_cells.specs.Run.{run}
use Rattle.machine_cells.specs.Runs.{state_in}
use Rattle.run_queries.specs.Answers.{has_sent}
use Rattle.flat_row.specs.Row.{proc_of}
use Rattle.experiments.specs.declared.delays.Came.{Came}
use Rattle.experiments.specs.declared.delays.Issue.{Issue}
use Rattle.experiments.specs.declared.delays.Log.{Log}
use Rattle.run_reports.specs.declared.runner.Runner.{Runner}
use Rattle.experiments.specs.Delays.{entry_of, is_cold, issue_at, issues, waited, waits_in, waits_of}
use Rattle.experiments.specs.Logs.{all_came, came_at, came_from, came_in, issued_now, wait_of, AreLogs, IsLog}
use Rattle.run_reports.specs.Runners.{IsAt}
use Rattle.run_reports.proofs.Runners.{proc_shows}
use Rattle.experiments.proofs.Waits.{flat-next}

module _ (P : Project) (r : Runner) (at : IsAt P r) (p : ℕ) (there : p < lines P.k) where
  pub first_log : r.cycle ≡ 0 → (log : Log) → log.index ≡ (proc_of r.row p).index → log.issues.items ≡ [] → log.replies.items ≡ [] → (from : ℕ) → IsLog P from 0 0 p log
  first_log first log index none empty from =
      let same : 0 ≡ r.cycle = omega (arith, first) in
      record { before = proc_of r.row p; shows = ap (λ t. state_in (run P) t p) same ∙ proc_shows P r at p there; index = index; issues = none; replies = empty }

  -- a cycle's issue more
  pub one_issue : (from m : ℕ) (old new : Log) → IsLog P from r.cycle m p old → new.index ≡ (proc_of r.row p).index
      → new.issues.items ≡ old.issues.items ++ option_to_list (issued_now P p old.index r.cycle (proc_of r.row p)) → new.replies ≡ old.replies
      → IsLog P from (r.cycle + 1) m p new
  one_issue from m old new is index more same = record {
    before = proc_of r.row p;
    shows = ap (λ t. state_in (run P) t p) back ∙ proc_shows P r at p there;
    index = index;
    issues = more ∙ ap₂ (λ (xs : List Issue) (o : Option Issue). xs ++ option_to_list o) is.issues now
        ∙ sym (flat-next (λ u. option_to_list (issue_at P (state_in (run P)) p u)) r.cycle);
    replies = ap (λ v. v.items) same ∙ is.replies;
  }
    where
      back : r.cycle + 1 - 1 ≡ r.cycle
      back = omega arith

      made : Option MachineState → Option MachineState → Option Issue
      made state before = if has_sent state then Some (record { cycle = r.cycle; cold = is_cold (entry_of P p before) }) else None

      now : issued_now P p old.index r.cycle (proc_of r.row p) ≡ issue_at P (state_in (run P)) p r.cycle
      now = ap (λ i. issued_now P p i r.cycle (proc_of r.row p)) is.index ∙ sym (ap₂ made (proc_shows P r at p there) is.shows)

  -- a cycle's replies more
  pub one_reply : (from n : ℕ) (old new : Log) → IsLog P from n r.cycle p old → from ≤ r.cycle
      → new.replies.items ≡ old.replies.items ++ came_in r.cycle (Some (Proc (proc_of r.row p))) → new.index ≡ old.index → new.issues ≡ old.issues
      → IsLog P from n (r.cycle + 1) p new
  one_reply from n old new is begun more index same = record {
    before = is.before;
    shows = is.shows;
    index = index ∙ is.index;
    issues = ap (λ v. v.items) same ∙ is.issues;
    replies = more ∙ ap₂ (λ (xs ys : List Came). xs ++ ys) is.replies now ∙ sym (flat-next (came_from from (λ t. state_in (run P) t p)) r.cycle);
  }
    where
      test : nat_le from r.cycle ≡ true
      test = grind (arith, nat_tests)

      now : came_in r.cycle (Some (Proc (proc_of r.row p))) ≡ came_from from (λ t. state_in (run P) t p) r.cycle
      now = ap (came_in r.cycle) (sym (proc_shows P r at p there)) ∙ rw test refl

-- a cycle before the window adds none
pub no_reply : (P : Project) (from n t p : ℕ) (log : Log) → t < from → IsLog P from n t p log → IsLog P from n (t + 1) p log
no_reply P from n t p log early is = record {
  before = is.before;
  shows = is.shows;
  index = is.index;
  issues = is.issues;
  replies = is.replies ∙ sym (append-nil (all_came from at t)) ∙ ap (λ (ys : List Came). all_came from at t ++ ys) (sym now) ∙ sym (flat-next (came_from from at) t);
}
  where
    at : ℕ → Option MachineState
    at u = state_in (run P) u p

    test : nat_le from t ≡ false
    test = grind (arith, nat_tests)

    now : came_from from at t ≡ []
    now = rw test refl

pub no_replies : (P : Project) (from n t : ℕ) (logs : List Log) → t < from → AreLogs P from n t logs → AreLogs P from n (t + 1) logs
no_replies P from n t logs early are = record { many = are.many; each = λ p log found. no_reply P from n t p log early (are.each p log found) }

-- no log yet, and one more
pub record First (P : Project) (i : ℕ) (logs : List Log) : Type 0 where
  pub many : length logs ≡ i
  pub each : (from p : ℕ) (log : Log) → slice_get logs p ≡ Some log → IsLog P from 0 0 p log

pub none_first : (P : Project) → First P 0 []
none_first P = record { many = refl; each = λ from p log found. cc }

pushed : (xs : List Log) (x : Log) (p : ℕ) (log : Log) → slice_get (xs ++ x ∷ []) p ≡ Some log → (slice_get xs p ≡ Some log) ⊎ ((p ≡ length xs) × (log ≡ x))
pushed [] x zero log found = let same : log ≡ x = cc in inr (refl, same)
pushed [] x (suc p) log found = cc
pushed (y ∷ ys) x zero log found = inl found
pushed (y ∷ ys) x (suc p) log found = by_place (pushed ys x p log found)
  where
    by_place : (slice_get ys p ≡ Some log) ⊎ ((p ≡ length ys) × (log ≡ x)) → (slice_get (y ∷ ys) (suc p) ≡ Some log) ⊎ ((suc p ≡ suc (length ys)) × (log ≡ x))
    by_place (inl e) = inl e
    by_place (inr e) = inr (ap suc e.0, e.1)

pub one_first : (P : Project) (i : ℕ) (logs new : List Log) (x : Log) → First P i logs → new ≡ logs ++ x ∷ [] → ((from : ℕ) → IsLog P from 0 0 i x) → First P (i + 1) new
one_first P i logs new x are more is = record {
  many = ap length more ∙ length-append logs (x ∷ []) ∙ omega (arith, are.many);
  each = λ from p log found. by_place from p log (pushed logs x p log (ap (λ v. slice_get v p) (sym more) ∙ found));
}
  where
    by_place : (from p : ℕ) (log : Log) → (slice_get logs p ≡ Some log) ⊎ ((p ≡ length logs) × (log ≡ x)) → IsLog P from 0 0 p log
    by_place from p log (inl e) = are.each from p log e
    by_place from p log (inr e) = subst (λ (q : ℕ). IsLog P from 0 0 q log) (sym (e.0 ∙ are.many)) (subst (IsLog P from 0 0 i) (sym e.1) (is from))

pub all_first : (P : Project) (i : ℕ) (logs : List Log) → First P i logs → i ≡ 2 ^ P.k → (from : ℕ) → AreLogs P from 0 0 logs
all_first P i logs are all from = record { many = are.many ∙ all; each = are.each from }

-- the logs before a place are of one kind, the others of another
pub record Partly (A B : ℕ → Log → Type 0) (i size : ℕ) (logs : List Log) : Type 0 where
  pub many : length logs ≡ size
  pub done : (p : ℕ) (log : Log) → p < i → slice_get logs p ≡ Some log → A p log
  pub rest : (p : ℕ) (log : Log) → i ≤ p → slice_get logs p ≡ Some log → B p log

module _ (A B : ℕ → Log → Type 0) (size : ℕ) where
  pub none_done : (logs : List Log) → length logs ≡ size → ((p : ℕ) (log : Log) → slice_get logs p ≡ Some log → B p log) → Partly A B 0 size logs
  none_done logs many each = record { many = many; done = λ p log less found. absurd (omega arith); rest = λ p log le found. each p log found }

  pub log_there : (i : ℕ) (logs : List Log) (old : Log) → Partly A B i size logs → i < size → old ≡ get_or logs i old → B i old
  log_there i logs old are less is =
      let within : i < length logs = omega (arith, are.many) in
      are.rest i old (omega arith) (slice_get-get_or logs i old within ∙ ap Some (sym is))

  pub one_done : (i : ℕ) (logs new : List Log) (x : Log) → Partly A B i size logs → i < size → new ≡ set logs i x → A i x → Partly A B (i + 1) size new
  one_done i logs new x are less put is = record {
    many = ap length put ∙ length-set logs i x ∙ are.many;
    done = λ p log before found. by_place p log before (ap (λ v. slice_get v p) (sym put) ∙ found) (p == i) refl;
    rest = λ p log behind found.
        let other : p ≡ i → ⊥ = λ e. omega (arith, e) in
        are.rest p log (omega arith) (sym (set_other logs i p x other) ∙ ap (λ v. slice_get v p) (sym put) ∙ found);
  }
    where
      within : i < length logs
      within = omega (arith, are.many)

      longer : i < length (set logs i x)
      longer = omega (arith, within, length-set logs i x)

      by_place : (p : ℕ) (log : Log) → p < i + 1 → slice_get (set logs i x) p ≡ Some log → (t : Bool) → (p == i) ≡ t → A p log
      by_place p log before found true e =
          let same : p ≡ i = eqb-true p i e in
          let here : slice_get (set logs i x) i ≡ Some x = slice_get-get_or (set logs i x) i x longer ∙ ap Some (get_or-set_same logs i x x within) in
          let own : log ≡ x = some_is (sym found ∙ ap (slice_get (set logs i x)) same ∙ here) in
          subst (λ (q : ℕ). A q log) (sym same) (subst (A i) (sym own) is)
        where
          some_is : {X : Type 0} {y z : X} → Some y ≡ Some z → y ≡ z
          some_is h = cc
      by_place p log before found false e =
          let less : p < i = grind (arith, nat_tests) in
          let other : p ≡ i → ⊥ = λ f. omega (arith, f, less) in
          are.done p log less (sym (set_other logs i p x other) ∙ found)

pub all_done : (P : Project) (from n m : ℕ) (B : ℕ → Log → Type 0) (i : ℕ) (logs : List Log) → Partly (IsLog P from n m) B i (2 ^ P.k) logs → 2 ^ P.k ≤ i → AreLogs P from n m logs
all_done P from n m B i logs are all = record {
  many = are.many;
  each = λ p log found. are.done p log (omega (arith, slice_get_within logs p log found, are.many, all)) found;
}

-- what the replies of a log took is what those of the window took
module _ (issued : List Issue) where
  state_waits : (t : ℕ) (s : Option MachineState) → flat_map (wait_of issued) (came_in t s) ≡ waits_in issued t s
  state_waits t None = refl
  state_waits t (Some (Module s)) = refl
  state_waits t (Some (Low s)) = refl
  state_waits t (Some (Comb s)) = refl
  state_waits t (Some (Proc s)) = by_replies (message_at s.got 0) (message_at s.got 1)
    where
      by_replies : (a b : Option Reply) → flat_map (wait_of issued) (option_to_list (came_at t a) ++ option_to_list (came_at t b))
          ≡ option_to_list (waited issued t a) ++ option_to_list (waited issued t b)
      by_replies None None = refl
      by_replies None (Some y) = append-nil _
      by_replies (Some x) None = refl
      by_replies (Some x) (Some y) = ap (λ (ys : List ℕ). option_to_list (waited issued t (Some x)) ++ ys) (append-nil _)

  module _ (at : ℕ → Option MachineState) (from : ℕ) where
    abbrev each : ℕ → List ℕ
    each i = waits_in issued (i + from) (at (i + from))

    cycles_wait : (n : ℕ) → flat_map (wait_of issued) (all_came from at n) ≡ flat_map each (below (n - from))
    cycles_wait zero = let none : 0 - from ≡ 0 = omega arith in rw none refl
    cycles_wait (suc n) =
        let more : suc n ≡ n + 1 = omega arith in
        ap (λ m. flat_map (wait_of issued) (all_came from at m)) more
        ∙ ap (flat_map (wait_of issued)) (flat-next (came_from from at) n)
        ∙ flat_map-append (wait_of issued) (all_came from at n) (came_from from at n)
        ∙ ap (λ (xs : List ℕ). xs ++ flat_map (wait_of issued) (came_from from at n)) (cycles_wait n)
        ∙ by_test (nat_le from n) refl
      where
        by_test : (t : Bool) → nat_le from n ≡ t → flat_map each (below (n - from)) ++ flat_map (wait_of issued) (came_from from at n) ≡ flat_map each (below (suc n - from))
        by_test true e =
            let begun : from ≤ n = grind (arith, nat_tests) in
            let next : suc n - from ≡ n - from + 1 = omega arith in
            let here : n ≡ n - from + from = omega arith in
            let now : came_from from at n ≡ came_in n (at n) = rw e refl in
            ap (λ (ys : List ℕ). flat_map each (below (n - from)) ++ ys) (ap (flat_map (wait_of issued)) now ∙ state_waits n (at n) ∙ ap (λ u. waits_in issued u (at u)) here)
            ∙ sym (flat-next each (n - from))
            ∙ ap (λ m. flat_map each (below m)) (sym next)
        by_test false e =
            let early : n < from = grind (arith, nat_tests) in
            let same : n - from ≡ suc n - from = omega arith in
            let now : came_from from at n ≡ [] = rw e refl in
            ap (λ (ys : List ℕ). flat_map each (below (n - from)) ++ ys) (ap (flat_map (wait_of issued)) now)
            ∙ append-nil _
            ∙ ap (λ m. flat_map each (below m)) same

pub log_waits : (P : Project) (from to p : ℕ) (log : Log) → IsLog P from to (to + 1) p log
    → flat_map (wait_of log.issues.items) log.replies.items ≡ waits_of P (state_in (run P)) from to p
log_waits P from to p log is =
    ap₂ (λ (issued : List Issue) (came : List Came). flat_map (wait_of issued) came) is.issues is.replies
    ∙ cycles_wait (issues P (state_in (run P)) p to) (λ t. state_in (run P) t p) from (to + 1)

-- a cycle of all logs more, where a runner is at it
pub cycle_logged : (P : Project) (from i t : ℕ) (a b d : List Log) → t ≡ i → AreLogs P from i i a
    → (AreLogs P from t t a → AreLogs P from (t + 1) t b) → (AreLogs P from (t + 1) t b → AreLogs P from (t + 1) (t + 1) d) → AreLogs P from (i + 1) (i + 1) d
cycle_logged P from i t a b d same are issues replies =
    subst (λ n. AreLogs P from (n + 1) (n + 1) d) same (replies (issues (subst (λ n. AreLogs P from n n a) (sym same) are)))

pub last_logged : (P : Project) (from i t to : ℕ) (a d : List Log) → t ≡ i → i ≡ to → AreLogs P from i i a
    → (AreLogs P from to t a → AreLogs P from to (t + 1) d) → AreLogs P from to (to + 1) d
last_logged P from i t to a d same all are replies =
    subst (λ n. AreLogs P from to (n + 1) d) (same ∙ all)
    (replies (subst (λ n. AreLogs P from to n a) (sym same) (subst (λ n. AreLogs P from n i a) all are)))

-- the waits of a processor's log are those of the processor
pub waits_there : (P : Project) (from to p : ℕ) (logs : List Log) (log : Log) → AreLogs P from to (to + 1) logs → p < 2 ^ P.k → log ≡ get_or logs p log
    → flat_map (wait_of log.issues.items) log.replies.items ≡ waits_of P (state_in (run P)) from to p
waits_there P from to p logs log are there is =
    let within : p < length logs = omega (arith, are.many, there) in
    log_waits P from to p log (are.each p log (slice_get-get_or logs p log within ∙ ap Some (sym is)))

-- a reply more
pub wait_next : (issued : List Issue) (came : List Came) (i : ℕ) (d : Came) (xs new : List ℕ) (o : Option ℕ) → i < length came → xs ≡ flat_map (wait_of issued) (take i came)
    → new ≡ xs ++ option_to_list o → option_to_list o ≡ wait_of issued (get_or came i d) → new ≡ flat_map (wait_of issued) (take (i + 1) came)
wait_next issued came i d xs new o lt so_far pushed is =
    pushed ∙ ap₂ (λ (ys zs : List ℕ). ys ++ zs) so_far is
    ∙ sym (ap (flat_map (wait_of issued)) (take_more came i d lt)
    ∙ flat_map-append (wait_of issued) (take i came) (get_or came i d ∷ [])
    ∙ ap (λ (zs : List ℕ). flat_map (wait_of issued) (take i came) ++ zs) (append-nil (wait_of issued (get_or came i d))))
