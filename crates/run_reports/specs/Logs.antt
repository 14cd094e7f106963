-- What is kept of a processor's part of a run while it is stepped.
use Rattle.std.specs.Prelude.{◌≡◌, ℕ, ◌+◌, ◌-◌, ◌^◌, ◌==◌, nat_lt, Bool, false, if◌then◌else◌, List, [], ◌∷◌, Option, None, Some, length, slice_get}
use Rattle.omega_net.specs.declared.message.Reply.{Reply}
use Rattle.ref_proc.specs.declared.state.ProcState.{ProcState}
use Rattle.project_book.specs.Project.{Project, entry_at}
use Rattle.machine_cells.specs.declared.state.MachineState.TheVariants.{Proc}
use Rattle.machine_cells.specs.Run.{run}
use Rattle.machine_cells.specs.Runs.{state_in}
use Rattle.run_queries.specs.Answers.{first_of}
use Rattle.run_reports.specs.declared.reference.Reference.{Reference}
use Rattle.run_reports.specs.declared.reference.Log.{Log}
use Rattle.run_reports.specs.References.{references_of}

-- a reference that is answered at cycle t, if it was issued before and not answered yet
abbrev pub answered_at : ℕ → Reference → Reference
answered_at t r = record r { answered = first_of r.answered (if nat_lt r.issued t then Some t else None) }

-- whether a reply is one to issue n
abbrev pub is_to : ℕ → Option Reply → Bool
is_to n None = false
is_to n (Some y) = y.tag.issue == n

-- references, numbered from n on, behind a reply of cycle t
abbrev pub marked : ℕ → Option Reply → ℕ → List Reference → List Reference
marked t y n [] = []
marked t y n (r ∷ rest) = (if is_to n y then answered_at t r else r) ∷ marked t y (n + 1) rest

-- where a processor's state shows at cycle t that it just issued a reference: that reference, for the entry with index i
abbrev pub issued_now : Project → ℕ → ℕ → ℕ → ProcState → Option Reference
issued_now P p i t s = if s.sent then Some (record { proc = p; issued = t; entry = entry_at P p i; answered = None }) else None

-- a log has the references that processor p issued in the first n cycles of the run, with their replies in these
pub record IsLog (P : Project) (n p : ℕ) (log : Log) : Type 0 where
  pub before : ProcState
  pub shows : state_in (run P) (n - 1) p ≡ Some (Proc before)
  pub index : log.index ≡ before.index
  pub references : log.references.items ≡ references_of P (state_in (run P)) n p

-- these are the logs of all processors
pub record AreLogs (P : Project) (n : ℕ) (logs : List Log) : Type 0 where
  pub many : length logs ≡ 2 ^ P.k
  pub each : (p : ℕ) (log : Log) → slice_get logs p ≡ Some log → IsLog P n p log
