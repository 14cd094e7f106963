-- What a desk stands for, and what it answers by it.
use Rattle.std.specs.Prelude.{◌≡◌, ℕ, ◌+◌, List, [], ◌∷◌, ◌++◌, length, Result, Ok, Err}
use Rattle.project_book.specs.Project.{Project}
use Rattle.project_book.specs.Edits.{accepts, edited}
use Rattle.project_book.specs.declared.edit.Edit.{Edit}
use Rattle.project_book.specs.declared.fault.EditFault.{EditFault}
use Rattle.run_queries.specs.declared.query.Query.{Query}
use Rattle.bench_core.specs.Shown.{Shown, project_of}
use Rattle.bench_core.specs.Told.{TellsAt, RefusesAt}
use Rattle.bench_core.specs.declared.noted.Noted.{Noted}
use Rattle.bench_core.specs.declared.told.Told.{Told}
use Rattle.bench_core.specs.declared.told.Told.TheVariants as told

-- a project, the number under which its edits are noted, and the journal of those that were accepted, the oldest first
pub record Store : Type 0 where
  pub project : Project
  pub author : ℕ
  pub journal : List Noted

-- the version: how many edits were accepted
abbrev pub version_in : Store → ℕ
version_in s = length s.journal

-- the store after an accepted edit
abbrev pub edited_store : Store → Edit → Store
edited_store s e = record { project = edited s.project e; author = s.author; journal = s.journal ++ record { author = s.author; edit = e } ∷ [] }

-- what an edit answers, and what the store is afterwards: a spent clock and want of memory refuse only what is accepted
abbrev pub EditGives : Store → Edit → Result ℕ EditFault → Store → Type 0
EditGives s e (Ok v) t = (accepts s.project (version_in s) e ≡ Ok tt) × (t ≡ edited_store s e) × (v ≡ version_in s + 1)
EditGives s e (Err fault) t = RefusesAt s.project (version_in s) e fault × (t ≡ s)

-- what is told of a query
abbrev pub Tells : Store → Query → Told → Type 0
Tells s q told = TellsAt s.project (version_in s) q told

-- an answer at this version
abbrev pub IsToldAt : ℕ → Told → Type 0
IsToldAt version (told.Answer v body) = v ≡ version
IsToldAt version (told.BadQuery n) = ⊥
IsToldAt version told.ClockSpent = ⊥
IsToldAt version told.Memory = ⊥

-- what a bench stands for as a desk: its edits are noted under 0, as those of one editor alone are
abbrev pub store_of : Shown → Store
store_of b = record { project = project_of b; author = 0; journal = b.journal }

-- a project at its opening: nothing was edited
abbrev pub first_store : Project → Store
first_store P = record { project = P; author = 0; journal = [] }
