-- The project that a file is, or its first fault.
use Rattle.std.specs.Prelude.{ℕ, nat_lt, false, if◌then◌else◌, List, [], ◌∷◌, length, replicate, Result, Ok, Err, codes, ok_or}
use Rattle.std.specs.Str.{is_utf8}
use Rattle.toml.specs.Data.{Members}
use Rattle.toml.specs.Parse.{parse_document}
use Rattle.page_map.specs.Limits.{max_k}
use Rattle.page_map.specs.Pages.{whole_pages}
use Rattle.project_book.specs.Limits.{max_window}
use Rattle.project_book.specs.Project.{Project}
use Rattle.project_file.specs.declared.fault.ProjectFault.{ProjectFault}
use Rattle.project_file.specs.declared.fault.ProjectFault.TheVariants.{TooLong, Text}
use Rattle.project_file.specs.Limits.{max_bytes, usual_bytes}
use Rattle.project_file.specs.Fields.{◌>>=◌, known, optional, number_in, number_at}
use Rattle.project_file.specs.declared.format.FileFormat.{FileFormat}
use Rattle.project_file.specs.Formats.{format_in, most_k, most_horizon, scale_of, is_third, has_short_forms}
use Rattle.project_book.specs.Queues.{usual_depths, usual_wait}
use Rattle.project_file.specs.Depths.{depths_in}
use Rattle.project_file.specs.Stages.{combine_in}
use Rattle.project_file.specs.Pages.{pages_in}
use Rattle.project_file.specs.Words.{words_in}
use Rattle.project_file.specs.Scripts.{no_scripts, scripts_in}
use Rattle.project_file.specs.Traffic.{with_traffic}

abbrev pub keys_before : List (List ℕ) → List (List ℕ)
keys_before keys = codes "format" ∷ codes "k" ∷ codes "horizon" ∷ codes "window" ∷ codes "combine" ∷ codes "depths" ∷ codes "page" ∷ codes "word" ∷ codes "script" ∷ keys

abbrev pub root_keys : FileFormat → List (List ℕ)
root_keys f = keys_before (if has_short_forms f then codes "traffic" ∷ [] else [])

-- the rest of a project of 2^k processors, in the order of the keys
abbrev pub sized_project : FileFormat → ℕ → ℕ → Members → Result Project ProjectFault
sized_project f k horizon ms = do
  window ← optional (codes "window") (number_in 1 max_window) 1 ms
  combine ← optional (codes "combine") (combine_in k) (replicate max_k false) ms
  depths ← optional (codes "depths") depths_in (usual_depths, usual_wait) ms
  pages ← optional (codes "page") (pages_in k) (whole_pages k) ms
  words ← optional (codes "word") words_in [] ms
  S ← optional (codes "script") (scripts_in f k) (no_scripts k) ms
  T ← with_traffic f k S ms
  Ok (record { scale = scale_of f; k = k; horizon = horizon; window = window; depths = depths.0; wait = depths.1; combine = combine; pages = pages; words = words; scripts = T.scripts })

-- the project of a document
abbrev pub document_project : Members → Result Project ProjectFault
document_project ms = do
  format ← format_in ms
  _ ← known (root_keys format) ms
  k ← number_at (codes "k") 0 (most_k format) ms
  horizon ← number_at (codes "horizon") 0 (most_horizon format) ms
  sized_project format k horizon ms

-- the document that a text is
abbrev pub document_of : List ℕ → Result Members ProjectFault
document_of bytes = if is_utf8 bytes then ok_or (parse_document bytes) Text else Err Text

-- the project of a long file: only a document of the third format may be one
abbrev pub long_project : Result Members ProjectFault → Result Project ProjectFault
long_project (Ok ms) = if is_third (format_in ms) then document_project ms else Err TooLong
long_project (Err _) = Err TooLong

-- `filed`: the project that a file's bytes are, or the first fault
abbrev pub filed : List ℕ → Result Project ProjectFault
filed bytes =
    if nat_lt max_bytes (length bytes) then Err TooLong
    else if nat_lt usual_bytes (length bytes) then long_project (document_of bytes)
    else document_of bytes >>= document_project
