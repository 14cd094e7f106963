-- A session, without workers and beside them.
use Rattle.std.proofs.Common.{◌≡◌, ℕ, ◌+◌, ◌-◌, ◌^◌, ◌<◌, true, List, [], ◌++◌, Result, subst, sym}
use Rattle.project_book.specs.Project.{Project}
use Rattle.bench_core.specs.Shown.{Shown, project_of}
use Rattle.shared_bench.specs.Known.{Known}
use Rattle.shared_bench.specs.Answers.{project_at}
use Rattle.wave_workers.specs.declared.worked.Worked.{Worked}
use Rattle.bench_shell.specs.Store.{Store, store_of, first_store}
use Rattle.bench_shell.specs.declared.fault.RunFault.{RunFault}
use Rattle.worker_sessions.specs.Seated.{entries_of, own_journal, seated_store}
use Rattle.worker_sessions.specs.Serving.{Bytes, Runs, HasEnded, Leaves}
use Rattle.worker_sessions.specs.declared.serving.Left.TheVariants.{Bench, Passes}

first_bench : (b : Shown) (P : Project) → project_of b ≡ P → b.journal ≡ [] → store_of b ≡ first_store P
first_bench b P is none = λ i. record { project = is i; author = 0; journal = none i }

first_seated : (p : Known) (P : Project) → p.project ≡ P → p.opened ≡ [] → p.number ≡ 0 → p.receipts ≡ [] → seated_store p ≡ first_store P
first_seated p P is none zeroth edits = λ i. record {
  project = project_at (is i) (none i) (none i ++ entries_of (zeroth i) (edits i));
  author = zeroth i;
  journal = none i ++ entries_of (zeroth i) (edits i);
}

module _ (b : Bytes) (cant_read cant_write : Type 0) (ended : Result (Unit {0}) RunFault) where
  -- a run of the pass q, which is p, that leaves r, which is u
  pub runs_as : (p q r u : Known) → q ≡ p → u ≡ r → Runs (seated_store q) (seated_store r) b cant_read cant_write (r.seen ≡ own_journal r) (r.spent ≡ true) ended
      → Runs (seated_store p) (seated_store u) b cant_read cant_write (u.seen ≡ own_journal u) (u.spent ≡ true) ended
  runs_as p q r u first last h =
      subst (λ x. Runs (seated_store p) (seated_store x) b cant_read cant_write (x.seen ≡ own_journal x) (x.spent ≡ true) ended) (sym last)
      (subst (λ x. Runs (seated_store x) (seated_store r) b cant_read cant_write (r.seen ≡ own_journal r) (r.spent ≡ true) ended) first h)

  -- a run of a bench at its opening
  pub leaves_bench : (n : ℕ) (d left : Shown) (P : Project) → n ≡ 0 → project_of d ≡ P → d.journal ≡ []
      → Runs (store_of d) (store_of left) b cant_read cant_write (Unit {0}) (left.table.clock ≡ 2 ^ 64 - 1) ended
      → Leaves n (first_store P) cant_read cant_write b ended (Bench left)
  leaves_bench n d left P none is empty h = (
    none,
    subst (λ s. Runs s (store_of left) b cant_read cant_write (Unit {0}) (left.table.clock ≡ 2 ^ 64 - 1) ended) (first_bench d P is empty) h,
  )

  -- a run beside workers
  pub leaves_passes : (n : ℕ) (p q : Known) (worked : Worked) (P : Project) → 0 < n → p.project ≡ P → p.opened ≡ [] → p.number ≡ 0 → p.receipts ≡ [] → p.seats ≡ n + 2
      → Runs (seated_store p) (seated_store q) b cant_read cant_write (q.seen ≡ own_journal q) (q.spent ≡ true) ended → HasEnded p n worked
      → Leaves n (first_store P) cant_read cant_write b ended (Passes q worked)
  leaves_passes n p q worked P some is none zeroth edits seats h all = (
    some,
    subst (λ s. Runs s (seated_store q) b cant_read cant_write (q.seen ≡ own_journal q) (q.spent ≡ true) ended) (first_seated p P is none zeroth edits) h,
    (p, record { project = is; opened = none; number = zeroth; seats = seats }, all),
  )
