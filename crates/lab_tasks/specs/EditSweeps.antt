-- The table of a sweep of edits, and why there is none.
use Rattle.std.specs.Prelude.{◌≡◌, ◌≤◌, ◌<◌, ◌⊎◌, ℕ, ◌*◌, ◌==◌, ◌&&◌, not, nat_le, Bool, true, false, List, [], ◌∷◌, ◌++◌, map, length, MatchBool, Option, None, Some, Result, Ok, Err, codes, decimal, string_bytes}
use Rattle.std.specs.List.{flat_map, list_all, AllZip}
use Rattle.project_book.specs.declared.edit.Edit.TheVariants.{Depth}
use Rattle.project_book.specs.declared.fault.EditFault.{EditFault}
use Rattle.project_book.specs.Faults.{number_of}
use Rattle.project_book.specs.Project.{Project}
use Rattle.edit_templates.specs.declared.step.Axis.{Axis}
use Rattle.edit_templates.specs.Templates.{Template, template_of, ways}
use Rattle.edit_templates.specs.Steps.{Step, each, first_length, followed, in_turn}
use Rattle.edit_templates.specs.Lines.{axis_of}
use Rattle.edit_templates.specs.Edited.{after_edits}
use Rattle.lab_tasks.specs.declared.answered.Form.{Form}
use Rattle.lab_tasks.specs.declared.asking.Asking.{Asking}
use Rattle.lab_tasks.specs.declared.end.End.{End}
use Rattle.lab_tasks.specs.declared.swept.Swept.{Swept}
use Rattle.lab_tasks.specs.declared.swept.Setting.{Setting}
use Rattle.lab_tasks.specs.Answered.{asked_columns, form_of, refused_cells}
use Rattle.lab_tasks.specs.Ends.{RefusesForm, RefusesRange}
use Rattle.lab_tasks.specs.Askings.{IsAsked}
use Rattle.lab_tasks.specs.Sweeps.{rows_of, IsSwept}
use Rattle.lab_tasks.specs.SweepTables.{max_rows, queue_names, HasRows, RefusesFirst, SayAll, AreNotSwept, AreNotAsked}
use Rattle.lab_tasks.specs.Tellings.{AreTold}

-- ---- what is gone through

-- the edit with braces that a word is: its names and steps, of which there are not too many
abbrev pub axis_kept : Axis → List (List ℕ) × List Step
axis_kept axis = (map string_bytes axis.names.items, axis.steps.items)

abbrev pub IsAxisOf : ℕ → Option Template → Axis → Type 0
IsAxisOf k None axis = ⊥
IsAxisOf k (Some template) axis = (ways template.1 ≤ max_rows) × (axis_of k template ≡ Some (axis_kept axis))

abbrev pub IsAxis : ℕ → List ℕ → Axis → Type 0
IsAxis k word axis = IsAxisOf k (template_of k word) axis

-- why a word is none: a brace isn't closed, there are too many steps, or with some words put in it is no edit
abbrev pub RefusesLine : List ℕ → End → Type 0
RefusesLine word end = RefusesForm (codes "--edit") word (codes "an edit in each row, as 'combine {0..2} on'") end

abbrev pub RefusesTemplate : ℕ → List ℕ → Option Template → End → Type 0
RefusesTemplate k word None end = RefusesLine word end
RefusesTemplate k word (Some template) end =
    MatchBool (nat_le (ways template.1) max_rows) ((axis_of k template ≡ None) × RefusesLine word end) (RefusesRange (codes "--edit") word 1 max_rows end)

abbrev pub RefusesEdit : ℕ → List ℕ → End → Type 0
RefusesEdit k word end = RefusesTemplate k word (template_of k word) end

abbrev pub AreNotEdits : ℕ → List (List ℕ) → End → Type 0
AreNotEdits k words end = RefusesFirst (IsAxis k) (λ word. RefusesEdit k word end) words

-- depths as a step
abbrev pub settings_step : List Setting → Step
settings_step row = (map (λ s. decimal s.depth) row, map (λ s. Depth s.queue s.depth) row)

-- the steps of the edits: each with each, or the first ones, the second ones and so on
abbrev pub axes_steps : List Axis → List (List Step)
axes_steps axes = map (λ axis. axis.steps.items) axes

abbrev pub edit_steps : Bool → List Axis → List Step
edit_steps false axes = each (axes_steps axes)
edit_steps true axes = in_turn (axes_steps axes)

-- the rows: those of the depths, each with each step of the edits
abbrev pub steps_behind : List Step → List Step → List Step
steps_behind firsts others = flat_map (λ step. map (followed step) others) firsts

abbrev pub sweep_steps : Bool → List Swept → List Axis → List Step
sweep_steps zip swept axes = steps_behind (map settings_step (rows_of swept)) (edit_steps zip axes)

-- how many rows there are
abbrev pub product_of : List Axis → ℕ
product_of [] = 1
product_of (axis ∷ axes) = length axis.steps.items * product_of axes

abbrev pub edit_count : Bool → List Axis → ℕ
edit_count false axes = product_of axes
edit_count true axes = first_length (axes_steps axes)

abbrev pub row_count : Bool → List Swept → List Axis → ℕ
row_count zip swept axes = length (rows_of swept) * edit_count zip axes

-- all axes have as many steps as the first one
abbrev pub are_even : List Axis → Bool
are_even axes = list_all (λ axis. length axis.steps.items == first_length (axes_steps axes)) axes

-- ---- the table

-- behind some words stands what the project after some edits says to each question and report, or `refused N` with the number of the reason
-- why one of the edits is refused
abbrev pub IsAfter : Form → List Asking → Result Project EditFault → List (List ℕ) → List (List ℕ) → Type 0
IsAfter form askings (Ok Q) words cells = AreTold form Q askings words cells
IsAfter form askings (Err fault) words cells = map Some cells ≡ map Some words ++ flat_map (refused_cells form (number_of fault)) askings

-- a row: the words that are put in, then what the project after the row's edits says
abbrev pub IsEditRow : Form → Project → List Asking → Step → List (List ℕ) → Type 0
IsEditRow form P askings step cells = IsAfter form askings (after_edits P step.1) step.0 cells

-- the first row: the names of the queues and of the braces, then the columns of the questions
abbrev pub axes_names : List Axis → List (List ℕ)
axes_names axes = flat_map (λ axis. map string_bytes axis.names.items) axes

abbrev pub edit_header : Form → List Swept → List Axis → List Asking → List (List ℕ) → List (List ℕ)
edit_header form swept axes askings asks = queue_names swept ++ (axes_names axes ++ asked_columns form askings asks)

-- the table: the depths and the edits that the words sweep, and the answers to the questions that the words ask, of which each number has a column of
-- its own or not
pub record IsEditTable (P : Project) (numbers zip : Bool) (depths edits asks : List (List ℕ)) (table : List (List (List ℕ))) : Type 0 where
  pub swept : List Swept
  pub axes : List Axis
  pub askings : List Asking
  pub are_swept : AllZip IsSwept depths swept
  pub are_edits : AllZip (IsAxis P.k) edits axes
  pub are_asked : AllZip (IsAsked P) asks askings
  pub even : (zip && not (are_even axes)) ≡ false
  pub few : row_count zip swept axes ≤ max_rows
  pub rows :
      HasRows (IsEditRow (form_of P numbers) P askings) (edit_header (form_of P numbers) swept axes askings asks) (sweep_steps zip swept axes) table

-- the edits aren't of one length, or there are too many rows
abbrev pub AreUneven : Project → Bool → List (List ℕ) → End → Type 0
AreUneven P zip edits end =
    (axes : List Axis) × AllZip (IsAxis P.k) edits axes × ((zip && not (are_even axes)) ≡ true)
    × RefusesForm (codes "--zip") (codes "each edit") (codes "of as many rows as the first") end

abbrev pub AreTooManyRows : Project → Bool → List (List ℕ) → List (List ℕ) → End → Type 0
AreTooManyRows P zip depths edits end =
    (swept : List Swept) × (axes : List Axis) × AllZip IsSwept depths swept × AllZip (IsAxis P.k) edits axes
    × ((zip && not (are_even axes)) ≡ false) × (max_rows < row_count zip swept axes) × RefusesRange (codes "--edit") (codes "each with each") 1 max_rows end

-- why there is no table: a word that sweeps nothing, else one that is no edit, else one that asks nothing, else edits that are not of one length,
-- else too many rows
abbrev pub AreNoRows : Project → Bool → List (List ℕ) → List (List ℕ) → List (List ℕ) → End → Type 0
AreNoRows P zip depths edits asks end = SayAll (IsAsked P) asks × (AreUneven P zip edits end ⊎ AreTooManyRows P zip depths edits end)

abbrev pub IsNoEditTable : Project → Bool → List (List ℕ) → List (List ℕ) → List (List ℕ) → End → Type 0
IsNoEditTable P zip depths edits asks end =
    AreNotSwept depths end ⊎ (SayAll IsSwept depths × (AreNotEdits P.k edits end ⊎ (SayAll (IsAxis P.k) edits × (AreNotAsked P asks end ⊎ AreNoRows P zip depths edits asks end))))
