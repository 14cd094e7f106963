-- What is printed, and which files are written.
use Rattle.std.specs.Prelude.{◌≡◌, ℕ, List, [], ◌∷◌, map, Option, None, Some, option_map, string_bytes}
use Rattle.lab_tasks.specs.declared.outcome.Outcome.{Outcome}

-- the files by name and bytes, and the folder that is made before
abbrev pub files_of : Outcome → List (List ℕ × List ℕ)
files_of outcome = map (λ file. (string_bytes file.name, file.bytes.items)) outcome.files.items

abbrev pub folder_of : Outcome → Option (List ℕ)
folder_of outcome = option_map (λ folder. string_bytes folder) outcome.folder

-- this is printed, these files are written, and no folder is made
abbrev pub Makes : List ℕ → List (List ℕ × List ℕ) → Outcome → Type 0
Makes printed files outcome = (outcome.printed.items ≡ printed) × (files_of outcome ≡ files) × (folder_of outcome ≡ None)

-- some bytes as the file of a name, or on standard output
abbrev pub IsGiven : Option (List ℕ) → List ℕ → Outcome → Type 0
IsGiven None bytes outcome = Makes bytes [] outcome
IsGiven (Some name) bytes outcome = Makes [] ((name, bytes) ∷ []) outcome

-- a table and a picture where they are wanted; the table is printed where neither is
abbrev pub AreGiven : Option (List ℕ) → Option (List ℕ) → List ℕ → List ℕ → Outcome → Type 0
AreGiven None None table picture outcome = Makes table [] outcome
AreGiven (Some csv) None table picture outcome = Makes [] ((csv, table) ∷ []) outcome
AreGiven None (Some out) table picture outcome = Makes [] ((out, picture) ∷ []) outcome
AreGiven (Some csv) (Some out) table picture outcome = Makes [] ((out, picture) ∷ (csv, table) ∷ []) outcome
