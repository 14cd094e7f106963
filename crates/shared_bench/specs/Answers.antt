-- What the calls of a pass answer. What the headline says stands first.
use Rattle.std.specs.Prelude.{◌≡◌, ℕ, ◌+◌, List, [], ◌∷◌, length, drop, Option, Result, Ok, Err, IfOk, IfNone, IfSome}
use Rattle.grid_law.specs.declared.no_memory.NoMemory.{NoMemory}
use Rattle.cell_states.specs.declared.cell.Cell.{Cell}
use Rattle.cell_table.specs.declared.given.Given.{Given}
use Rattle.cell_table.specs.declared.given.Given.TheVariants.{ClockSpent as GivenSpent}
use Rattle.cell_table.specs.Claims.{Claimed, Computed, NoneDue, IsNextRound, IsClaim}
use Rattle.machine_cells.specs.declared.state.MachineState.{MachineState}
use Rattle.machine_cells.specs.GridRules.{rp3_rules}
use Rattle.project_book.specs.Project.{Project}
use Rattle.project_book.specs.Edits.{edited}
use Rattle.project_book.specs.declared.edit.Edit.{Edit}
use Rattle.project_book.specs.declared.fault.EditFault.{EditFault}
use Rattle.bench_core.specs.Shown.{Shown, project_of, version_of}
use Rattle.bench_core.specs.Edits.{admits, Refuses, IsAfterEdit}
use Rattle.bench_core.specs.Stands.{HasHistory}
use Rattle.bench_core.specs.declared.noted.Noted.{Noted}
use Rattle.shared_bench.specs.Legal.{StartsWith}
use Rattle.shared_bench.specs.Known.{Known}

-- the project after these entries, the oldest first
abbrev pub after_entries : Project → List Noted → Project
after_entries P [] = P
after_entries P (e ∷ es) = after_entries (edited P e.edit) es

-- the project of a journal that goes on from `opened`, whose project is P
abbrev pub project_at : Project → List Noted → List Noted → Project
project_at P opened journal = after_entries P (drop (length opened) journal)

-- the project of the opening with the edits that the pass has seen since
abbrev pub project_seen : Known → Project
project_seen p = project_at p.project p.opened p.seen

-- the bench in a turn of the pass has the journal and the project that the pass has then seen
abbrev pub HasSeen : Known → Shown → Type 0
HasSeen p d = (d.journal ≡ p.seen) × (project_of d ≡ project_seen p)

-- and some list of events is behind it, whose edits are that journal
abbrev pub IsInTurn : Known → Shown → Type 0
IsInTurn p d = HasSeen p d × HasHistory d

-- a bench that the pass p finds in its turn: its journal goes on from what p had seen, its project is that journal's, and
-- some list of events is behind it
abbrev pub IsMet : Known → Shown → Type 0
IsMet p d = StartsWith d.journal p.seen × (project_of d ≡ project_at p.project p.opened d.journal) × HasHistory d

-- what an edit of this bench in an author's name is answered, and the bench after it
abbrev pub EditsAs : Shown → ℕ → Edit → Result ℕ EditFault → Shown → Type 0
EditsAs d author e (Ok v) next = (admits d e ≡ Ok tt) × IsAfterEdit d next author e × (v ≡ version_of d + 1)
EditsAs d author e (Err fault) next = Refuses d e fault × (next ≡ d)

-- what a claim of this bench from a cell on is answered
pub record ClaimsAs (d : Shown) (from : Cell) (result : Result (Option (Claimed MachineState Project)) NoMemory) : Type 0 where
  pub none : IfOk result (λ r. IfNone r (NoneDue rp3_rules d.table))
  pub next : IfOk result (λ r. IfSome r (λ claim. IsNextRound rp3_rules d.table from.cycle from.component claim.cell))
  pub holds : IfOk result (λ r. IfSome r (IsClaim rp3_rules d.table))

-- a result was refused for want of a later clock
abbrev pub IsGivenSpent : Given (Computed MachineState Project) → Type 0
IsGivenSpent (GivenSpent back) = Unit {0}
IsGivenSpent _ = ⊥
