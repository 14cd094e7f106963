-- The logs of processors, cycle by cycle.
use Rattle.std.proofs.Common.{◌≡◌, ℕ, zero, suc, ◌+◌, ◌-◌, ◌<◌, ◌≤◌, ◌^◌, ◌⊎◌, inl, inr, Bool, true, false, List, [], ◌∷◌, ◌++◌, length, get_or, set, refl, sym, ap, ap₂, ◌∙◌, subst, Option, None, Some, arith, add-one}
use Rattle.std.specs.Prelude.{◌==◌, ◌&&◌, ◌||◌, nat_lt, is_some, if◌then◌else◌, slice_get, option_to_list}
use Rattle.std.proofs.Math.ListN.{length-set}
use Rattle.std.proofs.lemmas.Bool.{eqb-true}
use Rattle.std.proofs.lemmas.Bool.Decides.{nat_tests}
use Rattle.std.proofs.lemmas.List.{get_or-set_same, length-append}
use Rattle.std.proofs.lemmas.Option.{slice_get-get_or, slice_get_within}
use Rattle.omega_net.specs.declared.message.Reply.{Reply}
use Rattle.omega_net.specs.Numbers.{lines}
use Rattle.omega_net.specs.Ports.{message_at}
use Rattle.ref_proc.specs.declared.state.ProcState.{ProcState}
use Rattle.project_book.specs.Project.{Project}
use Rattle.project_book.proofs.Leaving.{set_other}
use Rattle.machine_cells.specs.declared.state.MachineState.{MachineState}
use Rattle.machine_cells.specs.declared.state.MachineState.TheVariants.{Proc}
use Rattle.machine_cells.specs.Run.{run}
use Rattle.machine_cells.specs.Runs.{state_in}
use Rattle.run_queries.specs.Answers.{first_of, has_sent, word_for, word_got}
use Rattle.flat_row.specs.Row.{proc_of}
use Rattle.run_reports.specs.declared.reference.Log.{Log}
use Rattle.run_reports.specs.declared.reference.Reference.{Reference}
use Rattle.run_reports.specs.declared.runner.Runner.{Runner}
use Rattle.run_reports.specs.Logs.{answered_at, is_to, issued_now, marked, AreLogs, IsLog}
use Rattle.run_reports.specs.References.{entry_of, first_got, issue_at, issues, references_of, with_replies}
use Rattle.run_reports.specs.Runners.{IsAt}
use Rattle.run_reports.proofs.Below.{flat-next}
use Rattle.run_reports.proofs.Runners.{proc_shows}

-- no reply marks none
pub marked_none : (t n : ℕ) (xs : List Reference) → marked t None n xs ≡ xs
marked_none t n [] = refl
marked_none t n (x ∷ xs) = ap (λ rest. x ∷ rest) (marked_none t (n + 1) xs)

-- nor does one to a reference before these or behind them
marked_before : (t : ℕ) (y : Reply) (n : ℕ) (xs : List Reference) → y.tag.issue < n → marked t (Some y) n xs ≡ xs
marked_before t y n [] less = refl
marked_before t y n (x ∷ xs) less =
    let test : (y.tag.issue == n) ≡ false = grind (arith, nat_tests) in
    rw test (ap (λ rest. x ∷ rest) (marked_before t y (n + 1) xs (omega arith)))

marked_from : (t : ℕ) (y : Reply) (n : ℕ) (xs : List Reference) → n + length xs ≤ y.tag.issue → marked t (Some y) n xs ≡ xs
marked_from t y n [] far = refl
marked_from t y n (x ∷ xs) far =
    let test : (y.tag.issue == n) ≡ false = grind (arith, nat_tests, far) in
    rw test (ap (λ rest. x ∷ rest) (marked_from t y (n + 1) xs (omega (arith, far))))

pub marked_past : (t : ℕ) (y : Reply) (xs : List Reference) → length xs ≤ y.tag.issue → marked t (Some y) 0 xs ≡ xs
marked_past t y xs far = marked_from t y 0 xs (omega (arith, far))

-- it marks the one that it is to
marked_place : (t : ℕ) (y : Reply) (n i : ℕ) (d : Reference) (xs : List Reference) → y.tag.issue ≡ n + i → i < length xs
    → marked t (Some y) n xs ≡ set xs i (answered_at t (get_or xs i d))
marked_place t y n i d [] is less = absurd (omega arith)
marked_place t y n zero d (x ∷ xs) is less =
    let test : (y.tag.issue == n) ≡ true = grind (arith, nat_tests, is) in
    rw test (ap (λ rest. answered_at t x ∷ rest) (marked_before t y (n + 1) xs (omega (arith, is))))
marked_place t y n (suc i) d (x ∷ xs) is less =
    let test : (y.tag.issue == n) ≡ false = grind (arith, nat_tests, is) in
    rw test (ap (λ rest. x ∷ rest) (marked_place t y (n + 1) i d xs (omega (arith, is)) (omega arith)))

pub marked_at : (t : ℕ) (y : Reply) (d : Reference) (xs : List Reference) → y.tag.issue < length xs
    → marked t (Some y) 0 xs ≡ set xs y.tag.issue (answered_at t (get_or xs y.tag.issue d))
marked_at t y d xs less = marked_place t y 0 y.tag.issue d xs (omega arith) less

-- the replies of a cycle are the next ones
abbrev mark : ℕ → Bool → Bool → Option ℕ → Option ℕ
mark t l p o = if p then first_of o (if l then Some t else None) else o

marks : (t : ℕ) (l p q : Bool) (o : Option ℕ) → mark t l q (mark t l p o) ≡ first_of o (if l && (p || q) then Some t else None)
marks t true true true (Some x) = refl
marks t true true false (Some x) = refl
marks t true false true (Some x) = refl
marks t true false false (Some x) = refl
marks t false true true (Some x) = refl
marks t false true false (Some x) = refl
marks t false false true (Some x) = refl
marks t false false false (Some x) = refl
marks t true true true None = refl
marks t true true false None = refl
marks t true false true None = refl
marks t true false false None = refl
marks t false true true None = refl
marks t false true false None = refl
marks t false false true None = refl
marks t false false false None = refl

marks_one : (t : ℕ) (p : Bool) (r : Reference) → (if p then answered_at t r else r) ≡ record r { answered = mark t (nat_lt r.issued t) p r.answered }
marks_one t true r = refl
marks_one t false r = refl

got_any : (n : ℕ) (a b : Option Reply) → is_some (first_of (word_for n a) (word_for n b)) ≡ (is_to n a || is_to n b)
got_any n None None = refl
got_any n None (Some y) = one_reply (y.tag.issue == n)
  where
    one_reply : (t : Bool) → is_some (first_of None (if t then Some y.word else None)) ≡ t
    one_reply true = refl
    one_reply false = refl
got_any n (Some x) b = by_test (x.tag.issue == n) b
  where
    other : (b : Option Reply) → is_some (word_for n b) ≡ is_to n b
    other None = refl
    other (Some y) = one_reply (y.tag.issue == n)
      where
        one_reply : (t : Bool) → is_some (if t then Some y.word else None) ≡ t
        one_reply true = refl
        one_reply false = refl

    by_test : (t : Bool) (b : Option Reply) → is_some (first_of (if t then Some x.word else None) (word_for n b)) ≡ (t || is_to n b)
    by_test true b = refl
    by_test false b = other b

marks_both : (t n : ℕ) (a b : Option Reply) (x : Reference) (o : Option ℕ)
    → (if is_to n b then answered_at t (if is_to n a then answered_at t (record x { answered = o }) else record x { answered = o })
    else (if is_to n a then answered_at t (record x { answered = o }) else record x { answered = o }))
    ≡ record x { answered = first_of o (if nat_lt x.issued t && is_some (first_of (word_for n a) (word_for n b)) then Some t else None) }
marks_both t n a b x o =
    ap (λ (r : Reference). if is_to n b then answered_at t r else r) (marks_one t (is_to n a) (record x { answered = o }))
    ∙ marks_one t (is_to n b) (record x { answered = mark t (nat_lt x.issued t) (is_to n a) o })
    ∙ ap (λ (z : Option ℕ). record x { answered = z }) (marks t (nat_lt x.issued t) (is_to n a) (is_to n b) o)
    ∙ ap (λ (any : Bool). record x { answered = first_of o (if nat_lt x.issued t && any then Some t else None) }) (sym (got_any n a b))

replies_next : (at : ℕ → Option MachineState) (t : ℕ) (s : ProcState) → at t ≡ Some (Proc s) → (n : ℕ) (xs : List Reference)
    → marked t (message_at s.got 1) n (marked t (message_at s.got 0) n (with_replies at t n xs)) ≡ with_replies at (t + 1) n xs
replies_next at t s shows n [] = refl
replies_next at t s shows n (x ∷ xs) =
    ap₂ (λ (r : Reference) (rest : List Reference). r ∷ rest)
    (marks_both t n (message_at s.got 0) (message_at s.got 1) x (first_got at n x.issued t) ∙ ap (λ (z : Option ℕ). record x { answered = z }) now)
    (replies_next at t s shows (n + 1) xs)
  where
    now : first_of (first_got at n x.issued t) (if nat_lt x.issued t && is_some (word_got n (Some (Proc s))) then Some t else None) ≡ first_got at n x.issued (t + 1)
    now =
        ap (λ (o : Option MachineState). first_of (first_got at n x.issued t) (if nat_lt x.issued t && is_some (word_got n o) then Some t else None)) (sym shows)
        ∙ rw add-one refl

-- a reference that was just issued has no reply yet
none_yet : (at : ℕ → Option MachineState) (n u t : ℕ) → t ≤ u + 1 → first_got at n u t ≡ None
none_yet at n u zero early = refl
none_yet at n u (suc t) early =
    let test : nat_lt u t ≡ false = grind (arith, nat_tests) in
    rw (none_yet at n u t (omega arith), test) refl

replies_append : (at : ℕ → Option MachineState) (t n : ℕ) (xs ys : List Reference) → with_replies at t n (xs ++ ys) ≡ with_replies at t n xs ++ with_replies at t (n + length xs) ys
replies_append at t n [] ys =
    let e : n ≡ n + 0 = omega arith in
    ap (λ m. with_replies at t m ys) e
replies_append at t n (x ∷ xs) ys =
    let e : n + 1 + length xs ≡ n + suc (length xs) = omega arith in
    ap (λ (rest : List Reference). record x { answered = first_got at n x.issued t } ∷ rest)
    (replies_append at t (n + 1) xs ys ∙ ap (λ m. with_replies at t (n + 1) xs ++ with_replies at t m ys) e)

just_issued : (P : Project) (all : ℕ → ℕ → Option MachineState) (at : ℕ → Option MachineState) (p t m : ℕ)
    → with_replies at (t + 1) m (option_to_list (issue_at P all p t)) ≡ option_to_list (issue_at P all p t)
just_issued P all at p t m = by_test (has_sent (all t p))
  where
    issue : Reference
    issue = record { proc = p; issued = t; entry = entry_of P p (all (t - 1) p); answered = None }

    by_test : (b : Bool) → with_replies at (t + 1) m (option_to_list (if b then Some issue else None)) ≡ option_to_list (if b then Some issue else None)
    by_test true = ap (λ (o : Option ℕ). record issue { answered = o } ∷ []) (none_yet at m t (t + 1) (omega arith))
    by_test false = refl

module _ (P : Project) (r : Runner) (at : IsAt P r) (p : ℕ) (there : p < lines P.k) where
  pub first_log : r.cycle ≡ 0 → (log : Log) → log.index ≡ (proc_of r.row p).index → log.references.items ≡ [] → IsLog P 0 p log
  first_log first log index none =
      let same : 0 ≡ r.cycle = omega (arith, first) in
      record { before = proc_of r.row p; shows = ap (λ t. state_in (run P) t p) same ∙ proc_shows P r at p there; index = index; references = none }

  -- a cycle more
  pub one_cycle : (old new : Log) → IsLog P r.cycle p old → new.index ≡ (proc_of r.row p).index
      → new.references.items ≡ marked r.cycle (message_at (proc_of r.row p).got 1) 0 (marked r.cycle (message_at (proc_of r.row p).got 0) 0 old.references.items)
      ++ option_to_list (issued_now P p old.index r.cycle (proc_of r.row p))
      → IsLog P (r.cycle + 1) p new
  one_cycle old new is index more = record {
    before = proc_of r.row p;
    shows = ap (λ t. state_in (run P) t p) back ∙ proc_shows P r at p there;
    index = index;
    references =
        more
        ∙ ap₂ (λ (xs ys : List Reference). xs ++ ys) replied (ap (λ (o : Option Reference). option_to_list o) now)
        ∙ sym (ap (with_replies own (r.cycle + 1) 0) (flat-next (λ u. option_to_list (issue_at P (state_in (run P)) p u)) r.cycle)
        ∙ replies_append own (r.cycle + 1) 0 issued (option_to_list (issue_at P (state_in (run P)) p r.cycle))
        ∙ ap (λ (ys : List Reference). with_replies own (r.cycle + 1) 0 issued ++ ys) (just_issued P (state_in (run P)) own p r.cycle (0 + length issued)));
  }
    where
      back : r.cycle + 1 - 1 ≡ r.cycle
      back = omega arith

      own : ℕ → Option MachineState
      own u = state_in (run P) u p

      issued : List Reference
      issued = issues P (state_in (run P)) p r.cycle

      replied : marked r.cycle (message_at (proc_of r.row p).got 1) 0 (marked r.cycle (message_at (proc_of r.row p).got 0) 0 old.references.items)
          ≡ with_replies own (r.cycle + 1) 0 issued
      replied =
          ap (λ (xs : List Reference). marked r.cycle (message_at (proc_of r.row p).got 1) 0 (marked r.cycle (message_at (proc_of r.row p).got 0) 0 xs)) is.references
          ∙ replies_next own r.cycle (proc_of r.row p) (proc_shows P r at p there) 0 issued

      made : Option MachineState → Option MachineState → Option Reference
      made state before = if has_sent state then Some (record { proc = p; issued = r.cycle; entry = entry_of P p before; answered = None }) else None

      now : issued_now P p old.index r.cycle (proc_of r.row p) ≡ issue_at P (state_in (run P)) p r.cycle
      now = ap (λ i. issued_now P p i r.cycle (proc_of r.row p)) is.index ∙ sym (ap₂ made (proc_shows P r at p there) is.shows)

-- no log yet, and one more
pub record First (P : Project) (i : ℕ) (logs : List Log) : Type 0 where
  pub many : length logs ≡ i
  pub each : (p : ℕ) (log : Log) → slice_get logs p ≡ Some log → IsLog P 0 p log

pub none_first : (P : Project) → First P 0 []
none_first P = record { many = refl; each = λ p log found. cc }

pushed : (xs : List Log) (x : Log) (p : ℕ) (log : Log) → slice_get (xs ++ x ∷ []) p ≡ Some log → (slice_get xs p ≡ Some log) ⊎ ((p ≡ length xs) × (log ≡ x))
pushed [] x zero log found = let same : log ≡ x = cc in inr (refl, same)
pushed [] x (suc p) log found = cc
pushed (y ∷ ys) x zero log found = inl found
pushed (y ∷ ys) x (suc p) log found = by_place (pushed ys x p log found)
  where
    by_place : (slice_get ys p ≡ Some log) ⊎ ((p ≡ length ys) × (log ≡ x)) → (slice_get (y ∷ ys) (suc p) ≡ Some log) ⊎ ((suc p ≡ suc (length ys)) × (log ≡ x))
    by_place (inl e) = inl e
    by_place (inr e) = inr (ap suc e.0, e.1)

pub one_first : (P : Project) (i : ℕ) (logs new : List Log) (x : Log) → First P i logs → new ≡ logs ++ x ∷ [] → IsLog P 0 i x → First P (i + 1) new
one_first P i logs new x are more is = record {
  many = ap length more ∙ length-append logs (x ∷ []) ∙ omega (arith, are.many);
  each = λ p log found. by_place p log (pushed logs x p log (ap (λ v. slice_get v p) (sym more) ∙ found));
}
  where
    by_place : (p : ℕ) (log : Log) → (slice_get logs p ≡ Some log) ⊎ ((p ≡ length logs) × (log ≡ x)) → IsLog P 0 p log
    by_place p log (inl e) = are.each p log e
    by_place p log (inr e) = subst (λ (q : ℕ). IsLog P 0 q log) (sym (e.0 ∙ are.many)) (subst (IsLog P 0 i) (sym e.1) is)

pub all_first : (P : Project) (i : ℕ) (logs : List Log) → First P i logs → i ≡ 2 ^ P.k → AreLogs P 0 logs
all_first P i logs are all = record { many = are.many ∙ all; each = are.each }

-- the logs before a place are of one kind, the others of another
pub record Partly (A B : ℕ → Log → Type 0) (i size : ℕ) (logs : List Log) : Type 0 where
  pub many : length logs ≡ size
  pub done : (p : ℕ) (log : Log) → p < i → slice_get logs p ≡ Some log → A p log
  pub rest : (p : ℕ) (log : Log) → i ≤ p → slice_get logs p ≡ Some log → B p log

module _ (A B : ℕ → Log → Type 0) (size : ℕ) where
  pub none_done : (logs : List Log) → length logs ≡ size → ((p : ℕ) (log : Log) → slice_get logs p ≡ Some log → B p log) → Partly A B 0 size logs
  none_done logs many each = record { many = many; done = λ p log less found. absurd (omega arith); rest = λ p log le found. each p log found }

  pub log_there : (i : ℕ) (logs : List Log) (old : Log) → Partly A B i size logs → i < size → old ≡ get_or logs i old → B i old
  log_there i logs old are less is =
      let within : i < length logs = omega (arith, are.many) in
      are.rest i old (omega arith) (slice_get-get_or logs i old within ∙ ap Some (sym is))

  pub one_done : (i : ℕ) (logs new : List Log) (x : Log) → Partly A B i size logs → i < size → new ≡ set logs i x → A i x → Partly A B (i + 1) size new
  one_done i logs new x are less put is = record {
    many = ap length put ∙ length-set logs i x ∙ are.many;
    done = λ p log before found. by_place p log before (ap (λ v. slice_get v p) (sym put) ∙ found) (p == i) refl;
    rest = λ p log behind found.
        let other : p ≡ i → ⊥ = λ e. omega (arith, e) in
        are.rest p log (omega arith) (sym (set_other logs i p x other) ∙ ap (λ v. slice_get v p) (sym put) ∙ found);
  }
    where
      within : i < length logs
      within = omega (arith, are.many)

      longer : i < length (set logs i x)
      longer = omega (arith, within, length-set logs i x)

      by_place : (p : ℕ) (log : Log) → p < i + 1 → slice_get (set logs i x) p ≡ Some log → (t : Bool) → (p == i) ≡ t → A p log
      by_place p log before found true e =
          let same : p ≡ i = eqb-true p i e in
          let here : slice_get (set logs i x) i ≡ Some x = slice_get-get_or (set logs i x) i x longer ∙ ap Some (get_or-set_same logs i x x within) in
          let own : log ≡ x = some_is (sym found ∙ ap (slice_get (set logs i x)) same ∙ here) in
          subst (λ (q : ℕ). A q log) (sym same) (subst (A i) (sym own) is)
        where
          some_is : {X : Type 0} {y z : X} → Some y ≡ Some z → y ≡ z
          some_is h = cc
      by_place p log before found false e =
          let less : p < i = grind (arith, nat_tests) in
          let other : p ≡ i → ⊥ = λ f. omega (arith, f, less) in
          are.done p log less (sym (set_other logs i p x other) ∙ found)

pub all_done : (P : Project) (n : ℕ) (B : ℕ → Log → Type 0) (i : ℕ) (logs : List Log) → Partly (IsLog P n) B i (2 ^ P.k) logs → 2 ^ P.k ≤ i → AreLogs P n logs
all_done P n B i logs are all = record {
  many = are.many;
  each = λ p log found. are.done p log (omega (arith, slice_get_within logs p log found, are.many, all)) found;
}

-- the references of a processor's log are those of the processor
pub references_there : (P : Project) (n p : ℕ) (logs : List Log) (log : Log) → AreLogs P n logs → p < 2 ^ P.k → log ≡ get_or logs p log
    → log.references.items ≡ references_of P (state_in (run P)) n p
references_there P n p logs log are there is =
    let within : p < length logs = omega (arith, are.many, there) in
    (are.each p log (slice_get-get_or logs p log within ∙ ap Some (sym is))).references
