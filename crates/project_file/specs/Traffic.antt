-- The key `traffic`: scripts that are drawn from a seed, of processors that have no other one.
use Rattle.std.specs.Prelude.{ℕ, zero, suc, ◌+◌, ◌-◌, ◌^◌, pos, Float, Bool, true, false, if◌then◌else◌, List, [], ◌∷◌, Option, None, Some, Result, Ok, codes, ok_or, slice_set}
use Rattle.std.specs.Float.{binary64, fin}
use Rattle.std.specs.Float.Ieee.{div, eq, of_int}
use Rattle.toml.specs.Data.{Data, Members, as_float, as_str}
use Rattle.omega_net.specs.declared.script.ScriptEntry.{ScriptEntry}
use Rattle.page_map.specs.Limits.{address_count, page_count}
use Rattle.drawn_scripts.specs.declared.draw.Draw.{Draw}
use Rattle.drawn_scripts.specs.Draws.{script_drawn}
use Rattle.project_book.specs.EntryTexts.{network_named}
use Rattle.project_file.specs.declared.fault.ProjectFault.{ProjectFault}
use Rattle.project_file.specs.declared.fault.ProjectFault.TheVariants.{WrongType, Range}
use Rattle.project_file.specs.declared.format.FileFormat.{FileFormat}
use Rattle.project_file.specs.declared.scripts.GivenScripts.{GivenScripts}
use Rattle.project_file.specs.Formats.{has_short_forms}
use Rattle.project_file.specs.Fields.{◌>>=◌, walk, tables_in, table_in, known, optional, number_in, number_at}
use Rattle.project_file.specs.Processors.{is_for_several, processors_of, each_given}

abbrev pub traffic_keys : Bool → List (List ℕ)
traffic_keys several = (if several then codes "processors" else codes "processor") ∷ codes "network" ∷ codes "rate" ∷ codes "hot" ∷ codes "word" ∷ codes "page" ∷ codes "references" ∷ codes "seed" ∷ []

-- whether a number of 64 bits is n hundredths: the one nearest to n / 100
abbrev pub is_share : ℕ → Float → Bool
is_share n x = eq (div binary64 (of_int binary64 (pos n)) (fin false 25 (pos 2))) x

-- the first of so many numbers of hundredths, from n on, that it is
unfoldable pub sought : Float → ℕ → ℕ → Option ℕ
sought x n zero = None
sought x n (suc more) = if is_share n x then Some n else sought x (n + 1) more

-- a rate: a share of one, in hundredths, none of which is 0; or the whole number 1
abbrev pub rate_of : Data → Option Float → Result ℕ ProjectFault
rate_of d (Some x) = ok_or (sought x 1 100) Range
rate_of d None = number_in 1 1 d >>= (λ n. Ok 100)

abbrev pub rate_in : Data → Result ℕ ProjectFault
rate_in d = rate_of d (as_float d)

-- a network by its name: whether it is the combining one
abbrev pub network_in : Data → Result Bool ProjectFault
network_in d = ok_or (as_str d) WrongType >>= (λ text. ok_or (network_named text) WrongType)

-- what processors offer
abbrev pub draw_in : Members → Result Draw ProjectFault
draw_in ms = do
  sync ← optional (codes "network") network_in true ms
  rate ← optional (codes "rate") rate_in 100 ms
  hot ← number_at (codes "hot") 0 100 ms
  word ← number_at (codes "word") 0 (address_count - 1) ms
  page ← number_at (codes "page") 0 (page_count - 1) ms
  references ← number_at (codes "references") 1 2048 ms
  seed ← number_at (codes "seed") 0 (2 ^ 32 - 1) ms
  Ok (record { mix = record { sync = sync; hot = hot; word = word; page = page }; rate = rate; references = references; seed = seed })

-- the scripts where each of these processors has the one drawn for it
abbrev pub each_drawn : List (List ScriptEntry) → List ℕ → Draw → List (List ScriptEntry)
each_drawn scripts [] draw = scripts
each_drawn scripts (p ∷ ps) draw = each_drawn (slice_set scripts p (script_drawn draw p)) ps draw

-- the scripts, and which of them were given, after one more item, of a machine of 2^k processors
abbrev pub with_draw_of : FileFormat → ℕ → GivenScripts → Members → Result GivenScripts ProjectFault
with_draw_of f k S ms = do
  ps ← processors_of (is_for_several f ms) k ms
  given ← each_given S.given ps
  draw ← draw_in ms
  Ok (record { given = given; scripts = each_drawn S.scripts ps draw })

abbrev pub with_traffic_item : FileFormat → ℕ → GivenScripts → Data → Result GivenScripts ProjectFault
with_traffic_item f k S d = do
  ms ← table_in d
  _ ← known (traffic_keys (is_for_several f ms)) ms
  with_draw_of f k S ms

abbrev pub traffic_in : FileFormat → ℕ → GivenScripts → Data → Result GivenScripts ProjectFault
traffic_in f k S d = tables_in d >>= walk (with_traffic_item f k) S

-- after all of them, where the format has the key
abbrev pub with_traffic : FileFormat → ℕ → GivenScripts → Members → Result GivenScripts ProjectFault
with_traffic f k S ms = if has_short_forms f then optional (codes "traffic") (traffic_in f k S) S ms else Ok S
