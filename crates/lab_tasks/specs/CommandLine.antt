-- The program's command line, as `clap` reads it.
use Rattle.std.specs.Prelude.{◌≡◌, true, false, List, [], ◌∷◌, ◌++◌, map, fold, Some, Result, IfOk, All, codes, bytes_eq}
use Rattle.clap.specs.Words.{App, Rule, Shape, Text, app_of, new_app, new_rule, with_rule, with_subcommand}
use Rattle.clap.specs.Simple.{new_shape, on_top}
use Rattle.clap.specs.declared.builder.command.Command.{Command}
use Rattle.clap.specs.declared.builder.command.Command.TheViews.{out-Command}
use Rattle.clap.specs.declared.builder.action.ArgAction.TheVariants.{Set, Append, SetTrue}

-- an argument `--ID VALUE`, one that is given once or more, one that is given as often as one likes, one without a value, one by its position,
-- and the project file
abbrev pub option_rule : Text → Rule
option_rule id = record (new_rule id) { long = Some id; action = Some Set; value_names = 1 }

abbrev pub several_rule : Text → Rule
several_rule id = record (new_rule id) { long = Some id; action = Some Append; value_names = 1; required = true }

abbrev pub any_number_rule : Text → Rule
any_number_rule id = record (new_rule id) { long = Some id; action = Some Append; value_names = 1 }

abbrev pub flag_rule : Text → Rule
flag_rule id = record (new_rule id) { long = Some id; action = Some SetTrue }

abbrev pub position_rule : Text → Rule
position_rule id = record (new_rule id) { required = true }

abbrev pub file_rule : Rule
file_rule = position_rule (codes "FILE")

-- a task with these arguments
abbrev pub task : Text → List Rule → Shape
task name rules = record (new_shape name) { rules = rules }

abbrev pub map_task : Shape
map_task = task (codes "map") (file_rule ∷ map option_rule (codes "net" ∷ codes "dir" ∷ codes "queues" ∷ codes "module" ∷ codes "from" ∷ codes "to" ∷ codes "out" ∷ codes "compare" ∷ []))

abbrev pub order_task : Shape
order_task = task (codes "order") (file_rule ∷ map option_rule (codes "from" ∷ codes "to" ∷ codes "out" ∷ []))

abbrev pub latency_task : Shape
latency_task =
    task (codes "latency")
    (file_rule ∷ map option_rule (codes "processor" ∷ codes "network" ∷ codes "address" ∷ codes "page" ∷ []) ++ flag_rule (codes "hot")
    ∷ flag_rule (codes "cold") ∷ map option_rule (codes "from" ∷ codes "to" ∷ []))

abbrev pub done_task : Shape
done_task = task (codes "done") (file_rule ∷ [])

abbrev pub trace_task : Shape
trace_task = task (codes "trace") (file_rule ∷ position_rule (codes "P") ∷ position_rule (codes "I") ∷ option_rule (codes "out") ∷ [])

abbrev pub full_task : Shape
full_task = task (codes "full") (file_rule ∷ [])

abbrev pub series_task : Shape
series_task =
    task (codes "series") (file_rule ∷ several_rule (codes "of") ∷ map option_rule (codes "from" ∷ codes "to" ∷ codes "bin" ∷ codes "csv" ∷ codes "out" ∷ []))

abbrev pub busy_task : Shape
busy_task = task (codes "busy") (file_rule ∷ map option_rule (codes "from" ∷ codes "to" ∷ []))

abbrev pub measured_rules : List Rule
measured_rules = map option_rule (codes "k" ∷ codes "hot" ∷ codes "cycles" ∷ codes "seed" ∷ [])

abbrev pub measured_task : Text → Shape
measured_task name = task name measured_rules

abbrev pub kept_rules : List Rule
kept_rules = map option_rule (codes "csv" ∷ codes "out" ∷ codes "keep" ∷ [])

-- the project file may be left out
abbrev pub optional_rule : Text → Rule
optional_rule id = new_rule id

-- which references of a file are drawn
abbrev pub drawn_rules : List Rule
drawn_rules = optional_rule (codes "FILE") ∷ map option_rule (codes "processor" ∷ codes "network" ∷ codes "from" ∷ codes "to" ∷ [])

abbrev pub rates_task : Shape
rates_task = task (codes "rates") (measured_rules ++ (map option_rule (codes "seeds" ∷ codes "of" ∷ []) ++ kept_rules))

abbrev pub delays_task : Shape
delays_task = task (codes "delays") (measured_rules ++ (kept_rules ++ drawn_rules))

abbrev pub load_task : Shape
load_task = task (codes "load") (measured_rules ++ (map option_rule (codes "seeds" ∷ codes "rate" ∷ codes "step" ∷ []) ++ kept_rules))

abbrev pub sweep_task : Shape
sweep_task =
    task (codes "sweep")
    (file_rule ∷ any_number_rule (codes "setup") ∷ any_number_rule (codes "depth") ∷ any_number_rule (codes "edit") ∷ flag_rule (codes "zip")
    ∷ several_rule (codes "ask") ∷ option_rule (codes "csv") ∷ flag_rule (codes "numbers") ∷ option_rule (codes "plot") ∷ option_rule (codes "x")
    ∷ any_number_rule (codes "y") ∷ [])

abbrev pub check_task : Shape
check_task = task (codes "check") (file_rule ∷ [])

abbrev pub convert_task : Shape
convert_task = task (codes "convert") (file_rule ∷ option_rule (codes "out") ∷ flag_rule (codes "force") ∷ [])

abbrev pub page_task : Shape
page_task = task (codes "page") (file_rule ∷ map option_rule (codes "from" ∷ codes "to" ∷ codes "out" ∷ []))

abbrev pub shell_task : Shape
shell_task = task (codes "shell") (optional_rule (codes "FILE") ∷ flag_rule (codes "strict") ∷ flag_rule (codes "json") ∷ [])

-- the tasks
abbrev pub tasks : List Shape
tasks = map_task ∷ order_task ∷ latency_task ∷ done_task ∷ trace_task ∷ full_task ∷ series_task ∷ busy_task ∷ rates_task ∷ delays_task ∷ load_task ∷ sweep_task ∷ check_task ∷ convert_task ∷ page_task ∷ shell_task ∷ []

-- none of these tasks has this name; and no task at all
abbrev pub IsNoneOf : List Shape → Text → Type 0
IsNoneOf ts name = All (λ t. bytes_eq t.name name ≡ false) ts

abbrev pub IsNoTask : Text → Type 0
IsNoTask = IsNoneOf tasks

-- those that print a report of a file's run, and the others
abbrev pub reports : List Shape
reports = latency_task ∷ done_task ∷ trace_task ∷ full_task ∷ series_task ∷ busy_task ∷ []

abbrev pub other_tasks : List Shape
other_tasks = map_task ∷ order_task ∷ rates_task ∷ delays_task ∷ load_task ∷ sweep_task ∷ check_task ∷ convert_task ∷ page_task ∷ shell_task ∷ []

-- `lab TASK ..`, with a version; the words are those behind the program's name
abbrev pub bare : App
bare = on_top (λ s. record s { no_binary_name = true; has_version = true; subcommand_required = true }) (new_app (codes "lab"))

unfoldable pub lab : App
lab = fold with_subcommand bare tasks

-- a command that is built so, without an argument for its tasks too
abbrev pub IsApp : App → Command → Type 0
IsApp app c = (app_of c ≡ app) × ((out-Command c).has_globals ≡ false)

abbrev pub IsTask : Shape → Command → Type 0
IsTask shape c = IsApp (record { top = shape; subs = [] }) c

abbrev pub IsLab : Command → Type 0
IsLab c = IsApp lab c

-- a command is another one with an argument of this rule more, with arguments of these rules, or with a task more
abbrev pub HasMore : Command → Rule → Command → Type 0
HasMore old rule new = (app : App) → IsApp app old → IsApp (with_rule app rule) new

abbrev pub HasAll : Command → List Rule → Command → Type 0
HasAll old rules new = (app : App) → IsApp app old → IsApp (fold with_rule app rules) new

abbrev pub HasTask : {E : Type 0} → Command → Result Command E → Command → Type 0
HasTask old task new = (app : App) (shape : Shape) → IsApp app old → IfOk task (IsTask shape) → IsApp (with_subcommand app shape) new
