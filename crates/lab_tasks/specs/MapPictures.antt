-- WHAT A MAP SHOWS OF A RUN: the numbers of the run, at their places in the map.
use Rattle.std.specs.Prelude.{◌≡◌, ℕ, ◌+◌, ◌-◌, ◌*◌, ◌/◌, ◌==◌, nat_le, nat_lt, if◌then◌else◌, List, [], ◌∷◌, ◌++◌, map, codes, decimal, Option, None, Some}
use Rattle.std.specs.List.{flat_map}
use Rattle.omega_net.specs.declared.component.Net.{Net}
use Rattle.omega_net.specs.declared.component.Net.TheVariants.{Low, Comb}
use Rattle.omega_net.specs.Numbers.{lines}
use Rattle.omega_net.specs.Wires.{below}
use Rattle.project_book.specs.Project.{Project, depth_of, combines_at}
use Rattle.project_book.specs.Queues.{forward_queue}
use Rattle.machine_cells.specs.Run.{run}
use Rattle.machine_cells.specs.Runs.{state_in}
use Rattle.saturation.specs.Levels.{first_cycles}
use Rattle.experiments.specs.declared.map.StageLengths.{StageLengths}
use Rattle.experiments.specs.declared.map.Window.{Window}
use Rattle.experiments.specs.declared.series.QueueLengths.{QueueLengths}
use Rattle.experiments.specs.Maps.{stages_lengths, levels_over, served_over}
use Rattle.svg_plots.specs.declared.map.CellGroup.{CellGroup}
use Rattle.svg_plots.specs.declared.map.CellMap.{CellMap}
use Rattle.svg_plots.specs.declared.map.CellRow.{CellRow}
use Rattle.svg_plots.specs.declared.map.Crossing.{Crossing}
use Rattle.svg_plots.specs.declared.map.ShadeKey.{ShadeKey}
use Rattle.svg_plots.specs.declared.tick.Tick.{Tick}
use Rattle.svg_plots.specs.Lists.{each_from}
use Rattle.svg_plots.specs.Ticks.{step_of}
use Rattle.lab_tasks.specs.declared.plan.MapPlan.{MapPlan}
use Rattle.lab_tasks.specs.Columns.{cycles_a_column, greatest_columns, any_columns}
use Rattle.lab_tasks.specs.Summaries.{low_places, comb_places, other_places}
use Rattle.lab_tasks.specs.Tables.{switch_text}

-- a switch as the workbench names it: lS.J or cS.J
abbrev pub net_letter : Net → List ℕ
net_letter Low = codes "l"
net_letter Comb = codes "c"

abbrev pub switch_label : Net → ℕ → ℕ → List ℕ
switch_label net stage line = net_letter net ++ (decimal stage ++ (codes "." ++ decimal (line / 2)))

-- a queue's row has its switch's name and a cell for each column; the rows of a stage
abbrev pub row_of : MapPlan → ℕ → QueueLengths → CellRow
row_of plan stage queue = record { label = switch_label plan.net stage queue.line; cells = greatest_columns plan.window queue.lengths }

abbrev pub group_of : MapPlan → StageLengths → CellGroup
group_of plan s = record { label = codes "stage " ++ decimal s.stage; rows = map (row_of plan s.stage) s.queues }

-- A LEVEL'S LABEL says its first cycle in the whole run, and where that isn't in the picture; its line stands at that cycle's column
abbrev pub place_words : Window → ℕ → List ℕ
place_words w cycle =
    if nat_lt cycle w.from then codes ", before this picture" else (if nat_lt w.to cycle then codes ", after this picture" else codes "")

abbrev pub first_label : Window → ℕ → ℕ → List ℕ
first_label w level cycle = codes "level " ++ (decimal level ++ (codes ": cycle " ++ (decimal cycle ++ place_words w cycle)))

abbrev pub first_column : Window → ℕ → Option ℕ
first_column w cycle =
    if nat_lt cycle w.from then None else (if nat_lt w.to cycle then None else Some ((cycle - w.from) / cycles_a_column w))

abbrev pub crossing_of : Window → ℕ → Option ℕ → List Crossing
crossing_of w level None = []
crossing_of w level (Some cycle) = record { column = first_column w cycle; label = first_label w level cycle } ∷ []

-- the numbers of cycles under their columns, in steps of 1, 2 or 5 times a power of ten
abbrev pub tick_at : Window → ℕ → ℕ → List Tick
tick_at w step place =
    if nat_le (place * step) (w.to - w.from) then record { value = place * step / cycles_a_column w; number = w.from + place * step } ∷ [] else []

abbrev pub ticks_of : Window → List Tick
ticks_of w = flat_map (tick_at w (step_of (w.to - w.from) 8)) (below 9)

-- each length that a queue can have, with its shade; none where there is no queue
abbrev pub key_of : ℕ → ℕ → ShadeKey
key_of marked n = record { number = n; label = if nat_le marked n then decimal n ++ codes " full" else decimal n }

abbrev pub keys_of : ℕ → ℕ → List ShadeKey
keys_of k most = if k == 0 then [] else map (key_of (most - 1)) (below (most + 1))

abbrev pub net_words : Net → List ℕ
net_words Low = codes "low"
net_words Comb = codes "combining"

abbrev pub map_title : MapPlan → List ℕ
map_title plan = codes "Tree saturation: the queues towards module " ++ (decimal plan.module ++ (codes ", " ++ (net_words plan.net ++ codes " network")))

-- the lines below: the file's name and the cycles; the places of queues; which stages combine; what a level is; what a column is of
abbrev pub cell_words : ℕ → List ℕ
cell_words k = if k == 0 then codes "" else codes " A row is a switch's queue, a cell how many requests it holds."

abbrev pub caption : List ℕ → ℕ → Window → List ℕ
caption name k w = name ++ (codes ", cycles " ++ (decimal w.from ++ (codes " to " ++ (decimal w.to ++ (codes "." ++ cell_words k)))))

abbrev pub net_places : Project → Net → List ℕ
net_places P Low = low_places P
net_places P Comb = comb_places P

abbrev pub places_note : Project → Net → List ℕ
places_note P net =
    codes "Places: " ++ (net_places P net ++ (codes ", " ++ (other_places P ++ (codes "; at most " ++ (decimal P.window ++ codes " references unanswered.")))))

abbrev pub combining_notes : Project → Net → List (List ℕ)
combining_notes P Low = []
combining_notes P Comb = (codes "Combining, from the first stage on:" ++ flat_map (λ stage. codes " " ++ switch_text (combines_at P stage)) (below P.k)) ∷ []

abbrev pub level_note : ℕ → List ℕ
level_note k =
    if k == 0 then codes "With one processor there are no switches: no queue to draw, and no level."
    else codes "Level: how many stages, from the last one back, have only full queues: fewer than two places free."

abbrev pub column_note : ℕ → List ℕ
column_note each =
    codes "A column is " ++ (decimal each ++ codes " cycles: the longest that a queue was in them, the highest level, and whether a request was served.")

abbrev pub column_notes : ℕ → List (List ℕ)
column_notes each = if nat_le each 1 then [] else column_note each ∷ []

abbrev pub notes_of : Project → MapPlan → List ℕ → List (List ℕ)
notes_of P plan name =
    caption name P.k plan.window ∷ places_note P plan.net ∷ combining_notes P plan.net ++ level_note P.k ∷ column_notes (cycles_a_column plan.window)

-- WHAT A MAP OF TREE SATURATION SHOWS, number by number; by which name its file goes there is left open
pub record IsShown (P : Project) (plan : MapPlan) (m : CellMap) : Type 0 where
  pub title : m.title ≡ map_title plan
  pub groups : m.groups.items ≡ map (group_of plan) (stages_lengths P.k plan.net plan.module (state_in (run P)) plan.window.from plan.window.to)
  pub middle : m.middle ≡ 0
  pub most : m.most ≡ depth_of P (forward_queue plan.net)
  pub marked : m.marked ≡ depth_of P (forward_queue plan.net) - 1
  pub key : m.key.items ≡ keys_of P.k (depth_of P (forward_queue plan.net))
  pub crossings : m.crossings.items ≡ each_from (crossing_of plan.window) 1 (first_cycles P plan.net plan.module (state_in (run P)))
  pub levels : m.levels.items ≡ greatest_columns plan.window (levels_over P plan.net plan.module (state_in (run P)) plan.window.from plan.window.to)
  pub highest : m.highest ≡ P.k
  pub strokes : m.strokes.items ≡ any_columns plan.window (served_over plan.net (state_in (run P)) (lines P.k + plan.module) plan.window.from plan.window.to)
  pub ticks : m.ticks.items ≡ ticks_of plan.window
  pub across : m.across.now ≡ codes "cycle"
  pub level_title : m.level_title.now ≡ codes "level"
  pub stroke_title : m.stroke_title.now ≡ codes "served"
  pub notes : (name : List ℕ) × (m.notes.items ≡ notes_of P plan name)
