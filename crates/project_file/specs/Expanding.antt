-- The entries of a script, and the short forms of them in files of format 3: a step behind a reference, and repeated entries.
use Rattle.std.specs.Prelude.{ℕ, zero, suc, ◌+◌, ◌*◌, ◌%◌, ◌&&◌, nat_le, nat_lt, Bool, if◌then◌else◌, List, [], ◌∷◌, ◌++◌, length, Option, None, Some, option_and_then, Result, Ok, codes, bytes_eq, is_some, ok_or}
use Rattle.std.specs.Option.{option_map}
use Rattle.toml.specs.Data.{Data, Members, as_str, as_table}
use Rattle.line_words.specs.Words.{words_of}
use Rattle.line_words.specs.Numbers.{number_of}
use Rattle.word_ops.specs.Words.{kind_named}
use Rattle.omega_net.specs.declared.script.ScriptEntry.{ScriptEntry}
use Rattle.omega_net.specs.declared.script.ScriptEntry.TheVariants.{Reference}
use Rattle.page_map.specs.Limits.{address_count}
use Rattle.project_book.specs.EntryTexts.{entry_of, network_named}
use Rattle.project_book.specs.Limits.{script_entries}
use Rattle.project_book.specs.Scripts.{are_times}
use Rattle.project_file.specs.declared.fault.ProjectFault.{ProjectFault}
use Rattle.project_file.specs.declared.fault.ProjectFault.TheVariants.{WrongType, Entry, Range}
use Rattle.project_file.specs.declared.format.FileFormat.{FileFormat}
use Rattle.project_file.specs.declared.expanding.Stepped.{Stepped}
use Rattle.project_file.specs.Formats.{has_entry, has_short_forms}
use Rattle.project_file.specs.Fields.{◌>>=◌, check, all_items, walk, array_in, known, required, number_at}

-- the number behind the word `step`
abbrev pub step_of : List (List ℕ) → Option ℕ
step_of (word ∷ step ∷ []) = if bytes_eq word (codes "step") then number_of step else None
step_of _ = None

-- the reference with a step that words are, if they are one
abbrev pub stepped_of : List (List ℕ) → Option Stepped
stepped_of (network ∷ kind ∷ address ∷ operand ∷ times ∷ words) =
    option_and_then (λ n. option_and_then (λ k. option_and_then (λ a. option_and_then (λ v. option_and_then (λ t. option_map (λ s. record { sync = n; op = record { kind = k; operand = v }; address = a; times = t; step = s }) (step_of words)) (number_of times)) (number_of operand)) (number_of address)) (kind_named kind)) (network_named network)
stepped_of _ = None

-- whether its numbers are within the limits
abbrev pub is_stepped : Stepped → Bool
is_stepped s = nat_lt s.address address_count && are_times s.times && nat_lt s.step address_count

-- its first references: each is once at the address a step behind the one before, address 0 behind the last one
abbrev pub references : Stepped → ℕ → List ScriptEntry
references s zero = []
references s (suc n) = references s n ++ Reference s.sync s.op ((s.address + n * s.step) % address_count) 1 ∷ []

-- the entries that the words of a text stand for in a format
abbrev pub entry_or_stepped : FileFormat → List (List ℕ) → Option ScriptEntry → Result (List ScriptEntry) ProjectFault
entry_or_stepped f words (Some e) = do
  _ ← check (has_entry f e) Entry
  Ok (e ∷ [])
entry_or_stepped f words None = do
  _ ← check (has_short_forms f) Entry
  s ← ok_or (stepped_of words) Entry
  _ ← check (is_stepped s) Range
  Ok (references s s.times)

abbrev pub expanded : FileFormat → List (List ℕ) → Result (List ScriptEntry) ProjectFault
expanded f words = entry_or_stepped f words (entry_of words)

-- more entries behind a script, where it isn't too long already
abbrev pub behind : List ScriptEntry → List ScriptEntry → List ScriptEntry
behind es more = if nat_le (length es) script_entries then es ++ more else es

-- the same so many times
abbrev pub repeated : ℕ → List ScriptEntry → List ScriptEntry → List ScriptEntry
repeated zero more es = es
repeated (suc n) more es = behind (repeated n more es) more

-- the entries, and those of one more text, by its words
abbrev pub with_words : FileFormat → List ScriptEntry → List (List ℕ) → Result (List ScriptEntry) ProjectFault
with_words f es words = do
  more ← expanded f words
  Ok (behind es more)

abbrev pub is_text : Data → Bool
is_text d = is_some (as_str d)

abbrev pub with_text : FileFormat → List ScriptEntry → Data → Result (List ScriptEntry) ProjectFault
with_text f es d = ok_or (as_str d) WrongType >>= (λ text. with_words f es (words_of text))

-- the entries of an array of texts
abbrev pub texts_in : FileFormat → Data → Result (List ScriptEntry) ProjectFault
texts_in f d = do
  ds ← array_in d
  _ ← check (all_items is_text ds) WrongType
  walk (with_text f) [] ds

-- the entries, and those of a table that repeats some
abbrev pub repeat_keys : List (List ℕ)
repeat_keys = codes "repeat" ∷ codes "entries" ∷ []

abbrev pub with_repeated : FileFormat → List ScriptEntry → Members → Result (List ScriptEntry) ProjectFault
with_repeated f es ms = do
  _ ← known repeat_keys ms
  n ← number_at (codes "repeat") 1 script_entries ms
  d ← required (codes "entries") ms
  more ← texts_in f d
  Ok (repeated n more es)

-- the entries, and those of one more item: of a table, or else of a text
abbrev pub table_or_text : FileFormat → List ScriptEntry → Data → Option Members → Result (List ScriptEntry) ProjectFault
table_or_text f es d (Some ms) = with_repeated f es ms
table_or_text f es d None = with_text f es d

abbrev pub with_item : FileFormat → List ScriptEntry → Data → Result (List ScriptEntry) ProjectFault
with_item f es d = table_or_text f es d (as_table d)
