-- THE ROWS OF A MAP: which queues it shows, in which order and under which names.
use Rattle.std.specs.Prelude.{◌≡◌, ℕ, ◌+◌, ◌-◌, ◌/◌, ◌%◌, if◌then◌else◌, List, [], ◌∷◌, ◌++◌, map, codes, decimal, bytes_eq, Option, None, Some}
use Rattle.std.specs.List.{flat_map}
use Rattle.omega_net.specs.declared.component.Net.{Net}
use Rattle.omega_net.specs.declared.component.Component.TheVariants.{Module, Switch}
use Rattle.omega_net.specs.Numbers.{lines, number_of}
use Rattle.omega_net.specs.Texts.{component_text}
use Rattle.omega_net.specs.Wires.{below}
use Rattle.saturation.specs.Towards.{line_towards, queues_at}
use Rattle.run_reports.specs.declared.full_queues.Part.{Part}
use Rattle.run_reports.specs.declared.full_queues.Part.TheVariants.{Forward as ForwardAt, Reverse as ReverseAt, Requests, Replies}
use Rattle.run_reports.specs.declared.full_queues.PartQueue.{PartQueue}
use Rattle.svg_plots.specs.declared.map.CellGroup.{CellGroup}
use Rattle.svg_plots.specs.declared.map.CellRow.{CellRow}
use Rattle.lab_tasks.specs.declared.end.End.{End}
use Rattle.lab_tasks.specs.declared.map_rows.MapRow.{MapRow}
use Rattle.lab_tasks.specs.declared.map_rows.Over.{Over}
use Rattle.lab_tasks.specs.declared.map_rows.Over.TheVariants.{Tree, Modules}
use Rattle.lab_tasks.specs.declared.map_rows.RowGroup.{RowGroup}
use Rattle.lab_tasks.specs.declared.map_rows.Way.{Way}
use Rattle.lab_tasks.specs.declared.map_rows.Way.TheVariants.{Forward, Reverse}
use Rattle.lab_tasks.specs.Ends.{RefusesForm}

-- the way that a word names, forward without a word; and why it names none
abbrev pub way_named : List ℕ → Option Way
way_named word = if bytes_eq word (codes "forward") then Some Forward else (if bytes_eq word (codes "reverse") then Some Reverse else None)

abbrev pub way_of : Option (List ℕ) → Option Way
way_of None = Some Forward
way_of (Some word) = way_named word

abbrev pub IsNoWay : Option (List ℕ) → End → Type 0
IsNoWay None end = ⊥
IsNoWay (Some word) end = (way_named word ≡ None) × RefusesForm (codes "--dir") word (codes "forward or reverse") end

-- the same for the queues, those of one tree without a word
abbrev pub over_named : List ℕ → Option Over
over_named word = if bytes_eq word (codes "tree") then Some Tree else (if bytes_eq word (codes "module") then Some Modules else None)

abbrev pub over_of : Option (List ℕ) → Option Over
over_of None = Some Tree
over_of (Some word) = over_named word

abbrev pub IsNoOver : Option (List ℕ) → End → Type 0
IsNoOver None end = ⊥
IsNoOver (Some word) end = (over_named word ≡ None) × RefusesForm (codes "--queues") word (codes "tree or module") end

-- a module is named for a tree alone
abbrev pub IsTaken : Over → Option (List ℕ) → Type 0
IsTaken Tree word = Unit {0}
IsTaken Modules word = word ≡ None

abbrev pub IsNotTaken : Over → Option (List ℕ) → End → Type 0
IsNotTaken Modules (Some word) end = RefusesForm (codes "--module") word (codes "taken with --queues module") end
IsNotTaken _ _ end = ⊥

-- a queue of a switch
abbrev pub switch_row : ℕ → Net → ℕ → ℕ → Part → MapRow
switch_row k net stage index part =
    record { component = Switch net stage index; queue = record { place = number_of k (Switch net stage index); part = part } }

-- the one that sends requests over a line of its stage; and both that send replies back over the lines to it
abbrev pub output_row : ℕ → Net → ℕ → ℕ → MapRow
output_row k net stage line = switch_row k net stage (line / 2) (ForwardAt (line % 2))

abbrev pub input_rows : ℕ → Net → ℕ → ℕ → List MapRow
input_rows k net stage index = switch_row k net stage index (ReverseAt 0) ∷ switch_row k net stage index (ReverseAt 1) ∷ []

-- THE QUEUES OF A STAGE that requests to module m pass; and those that replies from it do, at the same switches
abbrev pub stage_rows : ℕ → Net → ℕ → Way → ℕ → List MapRow
stage_rows k net m Forward stage = map (λ place. output_row k net stage (line_towards k m stage place)) (below (queues_at k stage))
stage_rows k net m Reverse stage = flat_map (λ place. input_rows k net stage (line_towards k m stage place / 2)) (below (queues_at k stage))

-- a module's queue of the requests of a network, or of its replies
abbrev pub part_of : Net → Way → Part
part_of net Forward = Requests net
part_of net Reverse = Replies net

abbrev pub module_row : ℕ → Net → Way → ℕ → MapRow
module_row k net way m = record { component = Module m; queue = record { place = number_of k (Module m); part = part_of net way } }

-- THE ROWS in groups: those of each stage, the last one first; or those of all modules
abbrev pub stage_group : ℕ → Net → ℕ → Way → ℕ → RowGroup
stage_group k net m way stage = record { stage = Some stage; rows = stage_rows k net m way stage }

abbrev pub row_groups : ℕ → Net → ℕ → Way → Over → List RowGroup
row_groups k net m way Tree = map (λ back. stage_group k net m way (k - 1 - back)) (below k)
row_groups k net m way Modules = record { stage = None; rows = map (module_row k net way) (below (lines k)) } ∷ []

-- the queues of all rows
abbrev pub queues_of : RowGroup → List PartQueue
queues_of g = map (λ r. r.queue) g.rows

abbrev pub queues_in : List RowGroup → List PartQueue
queues_in groups = flat_map queues_of groups

-- A ROW'S NAME: its component's, and of a switch's two queues for replies which one
abbrev pub port_text : Part → List ℕ
port_text (ReverseAt i) = codes " r" ++ decimal i
port_text part = []

abbrev pub row_label : MapRow → List ℕ
row_label r = component_text r.component ++ port_text r.queue.part

abbrev pub group_label : Option ℕ → List ℕ
group_label None = codes "modules"
group_label (Some stage) = codes "stage " ++ decimal stage

-- rows as they are drawn, with the cells that each row has
abbrev pub cell_row : (MapRow → List ℕ) → MapRow → CellRow
cell_row cells r = record { label = row_label r; cells = cells r }

abbrev pub cell_group : (MapRow → List ℕ) → RowGroup → CellGroup
cell_group cells g = record { label = group_label g.stage; rows = map (cell_row cells) g.rows }
