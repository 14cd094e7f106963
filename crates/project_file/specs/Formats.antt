-- The key `format`: which of the three formats a file has, and what that allows it.
use Rattle.std.specs.Prelude.{ℕ, ◌==◌, Bool, true, false, if◌then◌else◌, Result, Ok, Err, codes}
use Rattle.toml.specs.Data.{Members}
use Rattle.omega_net.specs.declared.script.ScriptEntry.{ScriptEntry}
use Rattle.omega_net.specs.declared.script.ScriptEntry.TheVariants.{Until}
use Rattle.page_map.specs.Limits.{max_k}
use Rattle.project_book.specs.Limits.{max_horizon, usual_horizon}
use Rattle.project_book.specs.declared.scale.Scale.{Scale}
use Rattle.project_book.specs.declared.scale.Scale.TheVariants.{Usual, Large}
use Rattle.project_file.specs.declared.fault.ProjectFault.{ProjectFault}
use Rattle.project_file.specs.declared.fault.ProjectFault.TheVariants.{Format}
use Rattle.project_file.specs.declared.format.FileFormat.{FileFormat}
use Rattle.project_file.specs.declared.format.FileFormat.TheVariants.{First, Second, Third}
use Rattle.project_file.specs.Limits.{first_max_k, first_max_horizon}
use Rattle.project_file.specs.Fields.{number_at}

-- the format of a number, where it is one
abbrev pub numbered : Result ℕ ProjectFault → Result FileFormat ProjectFault
numbered (Ok n) = if n == 1 then Ok First else if n == 2 then Ok Second else Ok Third
numbered (Err _) = Err Format

-- the format of a document: its key `format` is 1, 2 or 3
abbrev pub format_in : Members → Result FileFormat ProjectFault
format_in ms = numbered (number_at (codes "format") 1 3 ms)

-- the greatest k and the greatest horizon of a format
abbrev pub most_k : FileFormat → ℕ
most_k First = first_max_k
most_k Second = max_k
most_k Third = max_k

abbrev pub most_horizon : FileFormat → ℕ
most_horizon First = first_max_horizon
most_horizon Second = usual_horizon
most_horizon Third = max_horizon

-- the scale of a project of a file: only the third format has large ones
abbrev pub scale_of : FileFormat → Scale
scale_of First = Usual
scale_of Second = Usual
scale_of Third = Large

-- the number of the format in which a project of a scale is written
abbrev pub format_of : Scale → ℕ
format_of Usual = 2
format_of Large = 3

-- whether that is the format of a document
abbrev pub is_third : Result FileFormat ProjectFault → Bool
is_third (Ok Third) = true
is_third _ = false

-- whether a format has an entry: the first has none that waits for a word
abbrev pub has_entry : FileFormat → ScriptEntry → Bool
has_entry First (Until sync op address value times) = false
has_entry _ _ = true

-- whether scripts of a format may be written in short forms
abbrev pub has_short_forms : FileFormat → Bool
has_short_forms First = false
has_short_forms Second = false
has_short_forms Third = true
