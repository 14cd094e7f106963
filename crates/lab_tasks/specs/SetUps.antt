-- A project that is set up by edits before a sweep, and why there is none.
use Rattle.std.specs.Prelude.{◌≡◌, ◌⊎◌, ℕ, List, [], ◌∷◌, ◌++◌, Option, None, Some, option_map, Result, Ok, Err, codes, decimal}
use Rattle.project_book.specs.declared.fault.EditFault.{EditFault}
use Rattle.project_book.specs.Faults.{number_of}
use Rattle.project_book.specs.Project.{Project}
use Rattle.edit_templates.specs.Edited.{after_edits}
use Rattle.edit_templates.specs.Lines.{edit_of}
use Rattle.lab_tasks.specs.declared.end.End.{End}
use Rattle.lab_tasks.specs.Ends.{Refuses, RefusesForm}

-- the project after the edit that a line is, if it is one
abbrev pub after_line : Project → List ℕ → Option (Result Project EditFault)
after_line P line = option_map (λ edit. after_edits P (edit ∷ [])) (edit_of P.k line)

-- why a line sets nothing up
abbrev pub RefusesSetUp : List ℕ → Option (Result Project EditFault) → End → Type 0
RefusesSetUp line None end = RefusesForm (codes "--setup") line (codes "an edit, as 'horizon 500'") end
RefusesSetUp line (Some (Ok Q)) end = ⊥
RefusesSetUp line (Some (Err fault)) end = Refuses (codes "--setup") line 7 (codes "is answered refused " ++ decimal (number_of fault)) end

-- a project is set up by some lines in turn
abbrev pub IsSetUp : Project → List (List ℕ) → Project → Type 0
IsSetUp P [] Q = P ≡ Q
IsSetUp P (line ∷ lines) Q = (R : Project) × (after_line P line ≡ Some (Ok R)) × IsSetUp R lines Q

-- the first line that is no edit, or is refused
abbrev pub IsNoSetUp : Project → List (List ℕ) → End → Type 0
IsNoSetUp P [] end = ⊥
IsNoSetUp P (line ∷ lines) end = RefusesSetUp line (after_line P line) end ⊎ ((R : Project) × (after_line P line ≡ Some (Ok R)) × IsNoSetUp R lines end)
