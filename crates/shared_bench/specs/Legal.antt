-- What a journal has to be for what a pass knows: the legal journal.
use Rattle.std.specs.Prelude.{◌≡◌, ℕ, ◌+◌, ◌<◌, ◌==◌, ◌||◌, nat_lt, Bool, false, List, [], ◌∷◌, ◌++◌, if◌then◌else◌, length, Ok}
use Rattle.project_book.specs.Project.{Project}
use Rattle.project_book.specs.Edits.{accepts, edited}
use Rattle.project_book.specs.declared.edit.Edit.{Edit}
use Rattle.bench_core.specs.declared.noted.Noted.{Noted}

-- an entry of an author
abbrev pub noted : ℕ → Edit → Noted
noted a e = record { author = a; edit = e }

-- a journal goes on from what was seen of it
abbrev pub StartsWith : List Noted → List Noted → Type 0
StartsWith journal seen = (rest : List Noted) × (journal ≡ seen ++ rest)

-- from the project P at version v on, each entry in turn is accepted
abbrev pub Folds : Project → ℕ → List Noted → Type 0
Folds P v [] = Unit {0}
Folds P v (e ∷ es) = (accepts P v e.edit ≡ Ok tt) × Folds (edited P e.edit) (v + 1) es

-- a number is one of these
abbrev pub has : ℕ → List ℕ → Bool
has n [] = false
has n (m ∷ ms) = (n == m) || has n ms

-- a version, and the edit that made it
abbrev pub Receipt : Type 0
Receipt = ℕ × Edit

-- the entries under these numbers, each with its version, where k entries stand before
abbrev pub entries_by : List ℕ → ℕ → List Noted → List Receipt
entries_by numbers k [] = []
entries_by numbers k (e ∷ es) = if has e.author numbers then (k + 1, e.edit) ∷ entries_by numbers (k + 1) es else entries_by numbers (k + 1) es

-- the authors of the entries are below n
abbrev pub AuthorsBelow : ℕ → List Noted → Type 0
AuthorsBelow n [] = Unit {0}
AuthorsBelow n (e ∷ es) = (e.author < n) × AuthorsBelow n es

-- the journal is legal for a pass that has seen this, with these numbers and receipts: it begins with the journal at the
-- opening; each later entry is accepted in its turn; it goes on from what the pass has seen; its entries under the pass's
-- numbers are the receipts, each once and in the order of their versions; and the later authors are below the seats
pub record IsLegal (project : Project) (opened : List Noted) (seats : ℕ) (seen : List Noted) (numbers : List ℕ) (receipts : List Receipt) (journal : List Noted) : Type 0 where
  pub since : List Noted
  pub begins : journal ≡ opened ++ since
  pub accepted : Folds project (length opened) since
  pub goes_on : StartsWith journal seen
  pub own : receipts ≡ entries_by numbers (length opened) since
  pub authors : AuthorsBelow seats since

-- all entries, each with its version, where k entries stand before
abbrev pub receipts_of : ℕ → List Noted → List Receipt
receipts_of k [] = []
receipts_of k (e ∷ es) = (k + 1, e.edit) ∷ receipts_of (k + 1) es

-- the receipt goes before the first that is later
abbrev pub insert : Receipt → List Receipt → List Receipt
insert y [] = y ∷ []
insert y (x ∷ xs) = if nat_lt y.0 x.0 then y ∷ x ∷ xs else x ∷ insert y xs

-- the receipts of both, in the order of their versions
abbrev pub merge : List Receipt → List Receipt → List Receipt
merge xs [] = xs
merge xs (y ∷ ys) = merge (insert y xs) ys
