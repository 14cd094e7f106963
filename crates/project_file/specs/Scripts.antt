-- The key `script`: the processors' scripts, each given at most once.
use Rattle.std.specs.Prelude.{ℕ, ◌^◌, ◌&&◌, ◌||◌, nat_le, Bool, false, List, [], length, replicate, Result, Ok, codes}
use Rattle.std.specs.List.{list_all}
use Rattle.toml.specs.Data.{Data, Members}
use Rattle.omega_net.specs.declared.script.ScriptEntry.{ScriptEntry}
use Rattle.page_map.specs.Limits.{max_k}
use Rattle.project_book.specs.Scales.{most_entries}
use Rattle.project_book.specs.Scripts.{is_addressed, is_timed}
use Rattle.project_file.specs.declared.fault.ProjectFault.{ProjectFault}
use Rattle.project_file.specs.declared.format.FileFormat.{FileFormat}
use Rattle.project_file.specs.Formats.{has_short_forms, scale_of}
use Rattle.project_file.specs.Processors.{is_for_several, script_keys, processors_of, each_given, each_set}
use Rattle.project_file.specs.Expanding.{is_text, with_item}
use Rattle.project_file.specs.declared.scripts.GivenScripts.{GivenScripts}
use Rattle.project_file.specs.declared.fault.ProjectFault.TheVariants.{WrongType, Range}
use Rattle.project_file.specs.Fields.{◌>>=◌, check, all_items, is_table, walk, array_in, tables_in, table_in, known, required}

-- an item of entries is a text, or a table in a format with short forms
abbrev pub is_item : FileFormat → Data → Bool
is_item f d = is_text d || (has_short_forms f && is_table d)

-- whether an entry, and a script of a file of a format, is within the limits
abbrev pub is_entry : ScriptEntry → Bool
is_entry e = is_addressed e && is_timed e

abbrev pub is_script : FileFormat → List ScriptEntry → Bool
is_script f es = nat_le (length es) (most_entries (scale_of f)) && list_all is_entry es

-- the entries of a script
abbrev pub entries_in : FileFormat → Data → Result (List ScriptEntry) ProjectFault
entries_in f d = do
  ds ← array_in d
  _ ← check (all_items (is_item f) ds) WrongType
  es ← walk (with_item f) [] ds
  _ ← check (is_script f es) Range
  Ok es

-- the scripts, and which of them were given, after one more item, of a machine of 2^k processors
abbrev pub with_script_of : FileFormat → ℕ → GivenScripts → Members → Result GivenScripts ProjectFault
with_script_of f k S ms = do
  ps ← processors_of (is_for_several f ms) k ms
  given ← each_given S.given ps
  d ← required (codes "entries") ms
  es ← entries_in f d
  Ok (record { given = given; scripts = each_set S.scripts ps es })

abbrev pub with_script_item : FileFormat → ℕ → GivenScripts → Data → Result GivenScripts ProjectFault
with_script_item f k S d = do
  ms ← table_in d
  _ ← known (script_keys (is_for_several f ms)) ms
  with_script_of f k S ms

-- no script has entries, and none was given
unfoldable pub no_scripts : ℕ → GivenScripts
no_scripts k = record { given = replicate (2 ^ max_k) false; scripts = replicate (2 ^ k) [] }

abbrev pub scripts_in : FileFormat → ℕ → Data → Result GivenScripts ProjectFault
scripts_in f k d = tables_in d >>= walk (with_script_item f k) (no_scripts k)
