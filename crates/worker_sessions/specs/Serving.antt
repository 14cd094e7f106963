-- What a session does.
use Rattle.std.specs.Prelude.{◌≡◌, ℕ, ◌+◌, ◌-◌, ◌^◌, ◌<◌, true, List, [], Option, Result, Ok, Err, OnOk, IfErr}
use Rattle.std.specs.Io.KnownBytes.{Keeps}
use Rattle.wave_workers.specs.declared.worked.Worked.{Worked}
use Rattle.wave_workers.specs.Working.{IsWorked}
use Rattle.shared_bench.specs.Known.{Known, IsSplit}
use Rattle.bench_shell.specs.Cause.{HasCause}
use Rattle.bench_shell.specs.Store.{Store, store_of}
use Rattle.bench_shell.specs.Output.{AnswersAll, AnswersPart, AnswersOwn}
use Rattle.bench_shell.specs.Own.{EditsAsRead}
use Rattle.bench_shell.specs.declared.fault.RunFault.{RunFault}
use Rattle.worker_sessions.specs.Seated.{own_journal, seated_store}
use Rattle.worker_sessions.specs.declared.serving.Left.{Left}
use Rattle.worker_sessions.specs.declared.serving.Left.TheVariants.{Bench, Passes}
use Rattle.worker_sessions.specs.declared.serving.NoStart.{NoStart}
use Rattle.worker_sessions.specs.declared.serving.Served.{Served}

-- the bytes that a session's reader will give, and those that its writer has got, before the session and after it
pub record Bytes : Type 0 where
  pub unread : Option (List ℕ)
  pub rest : Option (List ℕ)
  pub before : Option (List ℕ)
  pub after : Option (List ℕ)

-- The run of a session, on a desk that stood for s and then stands for t. Its own edits are those of lines that were read, in
-- their order. At the end of the input its lines through the last `ok ..` are those of the output, and none behind it begins
-- with `ok`; where nobody else has edited (`alone`), all are, and after a fault a beginning. Each fault comes only for its
-- cause: the reading can't go on, the writing has failed, somebody else has edited, the clock is spent.
pub record Runs (s t : Store) (b : Bytes) (cant_read cant_write alone spent : Type 0) (ended : Result (Unit {0}) RunFault) : Type 0 where
  pub edits : EditsAsRead b.unread b.rest s t
  pub own : OnOk ended (AnswersOwn b.unread b.rest b.before b.after s)
  pub all : alone → OnOk ended (AnswersAll b.unread b.rest b.before b.after s t)
  pub part : alone → IfErr ended (λ f. AnswersPart spent f b.unread b.rest b.before b.after s t)
  pub cause : HasCause ended cant_read cant_write (alone → ⊥) (Unit {0}) spent

-- the workers beside a pass have ended, however many could be started: the pass that was split for them comes back with a
-- number of each, which only threads that have ended bring back
abbrev pub HasEnded : Known → ℕ → Worked → Type 0
HasEnded p gates worked = (own : Known) × IsSplit p own × IsWorked own worked.pass gates worked.started worked.fault

-- the first pass to a bench that was opened with this store, with a seat for it, one for each worker, and one more
pub record IsFirst (s : Store) (workers : ℕ) (p : Known) : Type 0 where
  pub project : p.project ≡ s.project
  pub opened : p.opened ≡ s.journal
  pub number : p.number ≡ s.author
  pub seats : p.seats ≡ workers + 2

-- What a session with so many workers leaves, which ended so. Without workers it is the bench of its run: nobody else edits
-- that. Beside workers it is the pass of its run, and what came of the workers, all of which have ended.
abbrev pub Leaves : ℕ → Store → Type 0 → Type 0 → Bytes → Result (Unit {0}) RunFault → Left → Type 0
Leaves n s cant_read cant_write b ended (Bench d) =
    (n ≡ 0) × Runs s (store_of d) b cant_read cant_write (Unit {0}) (d.table.clock ≡ 2 ^ 64 - 1) ended
Leaves n s cant_read cant_write b ended (Passes p worked) =
    (0 < n) × Runs s (seated_store p) b cant_read cant_write (p.seen ≡ own_journal p) (p.spent ≡ true) ended × ((first : Known) × IsFirst s n first × HasEnded first n worked)

-- how a session with so many workers has ended, whatever it left
abbrev pub ServesTo : ℕ → Store → Type 0 → Type 0 → Bytes → Result (Unit {0}) RunFault → Type 0
ServesTo n s cant_read cant_write b ended = (left : Left) × Leaves n s cant_read cant_write b ended left

-- a session that couldn't start has read and written nothing
abbrev pub ServesAs : ℕ → Store → Type 0 → Type 0 → Bytes → Result Served NoStart → Type 0
ServesAs n s cant_read cant_write b (Ok served) = Leaves n s cant_read cant_write b served.ended served.left
ServesAs n s cant_read cant_write b (Err none) = Keeps b.unread b.rest × Keeps b.before b.after
