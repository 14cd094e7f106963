-- The table of a sweep, and why there is none.
use Rattle.std.specs.Prelude.{◌≡◌, ◌≤◌, ◌<◌, ℕ, ◌⊎◌, Bool, List, [], ◌∷◌, ◌++◌, map, length, take, slice_index_or, codes, decimal}
use Rattle.std.specs.List.{AllZip}
use Rattle.line_words.specs.Words.{words_of}
use Rattle.project_book.specs.Project.{Project}
use Rattle.commands.specs.Commands.{command_of}
use Rattle.lab_tasks.specs.declared.answered.Form.{Form}
use Rattle.lab_tasks.specs.declared.asking.Asking.{Asking}
use Rattle.lab_tasks.specs.declared.end.End.{End}
use Rattle.lab_tasks.specs.declared.end.End.TheVariants.{Memory, Spent}
use Rattle.lab_tasks.specs.declared.swept.Swept.{Swept}
use Rattle.lab_tasks.specs.declared.swept.Setting.{Setting}
use Rattle.lab_tasks.specs.Answered.{asked_columns, form_of}
use Rattle.lab_tasks.specs.Ends.{RefusesRange}
use Rattle.lab_tasks.specs.Askings.{IsAsked, RefusesAsk}
use Rattle.lab_tasks.specs.Sweeps.{queue_text, depths_in, IsSwept, RefusesDepths, rows_of, with_settings}
use Rattle.lab_tasks.specs.Tellings.{AreTold}

-- the first row: the names of the queues, then the columns of the questions
abbrev pub queue_names : List Swept → List (List ℕ)
queue_names swept = map (λ s. queue_text s.queue) swept

abbrev pub header_cells : Form → List Swept → List Asking → List (List ℕ) → List (List ℕ)
header_cells form swept askings asks = queue_names swept ++ asked_columns form askings asks

-- a row: its depths, then what the project with these depths says to each question
abbrev pub depth_words : List Setting → List (List ℕ)
depth_words row = map (λ s. decimal s.depth) row

abbrev pub IsRow : Form → Project → List Asking → List Setting → List (List ℕ) → Type 0
IsRow form P askings row cells = AreTold form (with_settings P row) askings (depth_words row) cells

-- a table has a row for each of some things behind a first one
abbrev pub HasRows : {T : Type 0} → (T → List (List ℕ) → Type 0) → List (List ℕ) → List T → List (List (List ℕ)) → Type 0
HasRows Row first things table = (rows : List (List (List ℕ))) × AllZip Row things rows × (table ≡ first ∷ rows)

-- how many rows a table may have
abbrev pub max_rows : ℕ
max_rows = 10000

-- the table: the depths that the words sweep, each with each, and the answers to the questions that the words ask, of which each number has a column
-- of its own or not
pub record IsTable (P : Project) (numbers : Bool) (depths asks : List (List ℕ)) (table : List (List (List ℕ))) : Type 0 where
  pub swept : List Swept
  pub askings : List Asking
  pub are_swept : AllZip IsSwept depths swept
  pub are_asked : AllZip (IsAsked P) asks askings
  pub few : length (rows_of swept) ≤ max_rows
  pub rows : HasRows (IsRow (form_of P numbers) P askings) (header_cells (form_of P numbers) swept askings asks) (rows_of swept) table

-- each of some words says something
abbrev pub SayAll : {T : Type 0} → (List ℕ → T → Type 0) → List (List ℕ) → Type 0
SayAll {T} Says words = (said : List T) × AllZip Says words said

-- the first of some words that says nothing is refused
abbrev pub RefusesFirst : {T : Type 0} → (List ℕ → T → Type 0) → (List ℕ → Type 0) → List (List ℕ) → Type 0
RefusesFirst Says Refuses words = (i : ℕ) × (i < length words) × SayAll Says (take i words) × Refuses (slice_index_or words i [])

abbrev pub AreNotSwept : List (List ℕ) → End → Type 0
AreNotSwept words end = RefusesFirst IsSwept (λ word. RefusesDepths word (depths_in word) end) words

abbrev pub AreNotAsked : Project → List (List ℕ) → End → Type 0
AreNotAsked P words end = RefusesFirst (IsAsked P) (λ word. RefusesAsk P word (command_of P.k (words_of word)) end) words

-- too many rows
abbrev pub AreTooMany : List (List ℕ) → End → Type 0
AreTooMany words end =
    (swept : List Swept) × AllZip IsSwept words swept × (max_rows < length (rows_of swept))
    × RefusesRange (codes "--depth") (codes "each with each") 1 max_rows end

-- why there is no table: a word that sweeps nothing, else one that asks nothing, else too many rows
abbrev pub IsNoTable : Project → List (List ℕ) → List (List ℕ) → End → Type 0
IsNoTable P depths asks end =
    AreNotSwept depths end ⊎ ((SayAll IsSwept depths × AreNotAsked P asks end) ⊎ (SayAll (IsAsked P) asks × AreTooMany depths end))

-- an end by a reason, or for want of memory
abbrev pub OrMemory : (End → Type 0) → End → Type 0
OrMemory Reason Memory = Unit {0}
OrMemory Reason end = Reason end

-- or since the bench takes no more edits
abbrev pub OrStop : (End → Type 0) → End → Type 0
OrStop Reason Spent = Unit {0}
OrStop Reason end = OrMemory Reason end
