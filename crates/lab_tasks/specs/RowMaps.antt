-- WHAT A MAP OF REPLIES, OR OF THE MODULES' QUEUES, SHOWS OF A RUN: the numbers of the run, at their places in the map.
use Rattle.std.specs.Prelude.{◌≡◌, ℕ, ◌+◌, ◌-◌, ◌==◌, nat_le, Bool, if◌then◌else◌, List, [], ◌∷◌, ◌++◌, map, codes, decimal, Option}
use Rattle.omega_net.specs.declared.component.Net.{Net}
use Rattle.omega_net.specs.Numbers.{lines}
use Rattle.omega_net.specs.Wires.{below}
use Rattle.project_book.specs.declared.edit.Depths.{Depths}
use Rattle.project_book.specs.declared.edit.Depths.TheVariants.{ModuleQueue}
use Rattle.project_book.specs.Project.{Project, depth_of}
use Rattle.project_book.specs.Queues.{forward_queue, reverse_queue}
use Rattle.machine_cells.specs.declared.state.MachineState.{MachineState}
use Rattle.machine_cells.specs.Run.{run}
use Rattle.machine_cells.specs.Runs.{state_in}
use Rattle.experiments.specs.declared.map.Window.{Window}
use Rattle.experiments.specs.Maps.{served_over}
use Rattle.run_reports.specs.declared.full_queues.PartQueue.{PartQueue}
use Rattle.run_reports.specs.Lengths.{lengths_of}
use Rattle.svg_plots.specs.declared.map.CellMap.{CellMap}
use Rattle.svg_plots.specs.declared.map.ShadeKey.{ShadeKey}
use Rattle.lab_tasks.specs.declared.map_rows.MapRow.{MapRow}
use Rattle.lab_tasks.specs.declared.map_rows.Over.{Over}
use Rattle.lab_tasks.specs.declared.map_rows.Over.TheVariants.{Tree, Modules}
use Rattle.lab_tasks.specs.declared.map_rows.Way.{Way}
use Rattle.lab_tasks.specs.declared.map_rows.Way.TheVariants.{Forward, Reverse}
use Rattle.lab_tasks.specs.declared.plan.MapPlan.{MapPlan}
use Rattle.lab_tasks.specs.Columns.{any_columns, columns_in, cycles_a_column, greatest_columns}
use Rattle.lab_tasks.specs.MapPictures.{combining_notes, key_of, keys_of, net_words, places_note, ticks_of}
use Rattle.lab_tasks.specs.MapRows.{cell_group, row_groups}

-- the lengths of a queue in the cycles of a window
abbrev pub lengths_in : Project → Window → PartQueue → List ℕ
lengths_in P w q = lengths_of (state_in (run P)) (record { from = w.from; to = w.to }) q

abbrev pub row_cells : Project → Window → MapRow → List ℕ
row_cells P w r = greatest_columns w (lengths_in P w r.queue)

-- which depth the queues have
abbrev pub depths_of : Net → Way → Over → Depths
depths_of net Forward Tree = forward_queue net
depths_of net Reverse Tree = reverse_queue net
depths_of net way Modules = ModuleQueue

-- the least length at which they are full: a switch's with one place free, since two messages may come in a step; a module's with none
abbrev pub full_at : Over → ℕ → ℕ
full_at Tree depth = depth - 1
full_at Modules depth = depth

-- each length, with its shade; none where there is no queue
abbrev pub row_keys : ℕ → Over → ℕ → List ShadeKey
row_keys k Tree depth = keys_of k depth
row_keys k Modules depth = map (key_of depth) (below (depth + 1))

-- what the queues are, in a title and in a sentence
abbrev pub queue_words : ℕ → Way → Over → List ℕ
queue_words m Forward Tree = codes "The queues towards module " ++ decimal m
queue_words m Reverse Tree = codes "The way back: the queues for replies from module " ++ decimal m
queue_words m Forward Modules = codes "The queues in which requests wait at modules"
queue_words m Reverse Modules = codes "The queues in which replies wait at modules"

abbrev pub row_title : MapPlan → List ℕ
row_title plan = queue_words plan.module plan.way plan.over ++ (codes ", " ++ (net_words plan.net ++ codes " network"))

abbrev pub row_words : ℕ → Way → Over → List ℕ
row_words k Forward Tree = if k == 0 then codes "" else codes " A row is a switch's queue, a cell how many requests it holds."
row_words k Reverse Tree = if k == 0 then codes "" else codes " A row is a switch's queue, a cell how many replies it holds."
row_words k Forward Modules = codes " A row is a module's queue, a cell how many requests it holds."
row_words k Reverse Modules = codes " A row is a module's queue, a cell how many replies it holds."

-- THE LINES BELOW: the file's name and the cycles; the places of queues; which stages combine; which rows there are, and what is full; what
-- a column is of
abbrev pub row_caption : List ℕ → ℕ → MapPlan → List ℕ
row_caption name k plan =
    name
    ++ (codes ", cycles " ++ (decimal plan.window.from ++ (codes " to " ++ (decimal plan.window.to ++ (codes "." ++ row_words k plan.way plan.over)))))

abbrev pub rows_note : ℕ → Way → Over → List ℕ
rows_note k way Modules = codes "Full: no place free."
rows_note k Forward Tree =
    if k == 0 then codes "With one processor there are no switches: no queue to draw." else codes "Full: fewer than two places free."
rows_note k Reverse Tree =
    if k == 0 then codes "With one processor there are no switches: no queue to draw."
    else codes "From the module to the processors; r0, r1: by the input that replies go back over. Full: fewer than two places free."

abbrev pub row_column_note : Over → ℕ → List ℕ
row_column_note Tree each =
    codes "A column is " ++ (decimal each ++ codes " cycles: the longest that a queue was in them, and whether a request was served.")
row_column_note Modules each = codes "A column is " ++ (decimal each ++ codes " cycles: the longest that a queue was in them.")

abbrev pub row_column_notes : Over → ℕ → List (List ℕ)
row_column_notes over each = if nat_le each 1 then [] else row_column_note over each ∷ []

abbrev pub row_notes : Project → MapPlan → List ℕ → List (List ℕ)
row_notes P plan name =
    row_caption name P.k plan ∷ places_note P plan.net ∷ combining_notes P plan.net ++ rows_note P.k plan.way plan.over
    ∷ row_column_notes plan.over (cycles_a_column plan.window)

-- a stroke where the module served a request, from which the replies come; of all modules none
abbrev pub row_strokes : Project → MapPlan → Over → List Bool
row_strokes P plan Tree =
    any_columns plan.window (served_over plan.net (state_in (run P)) (lines P.k + plan.module) plan.window.from plan.window.to)
row_strokes P plan Modules = []

abbrev pub stroke_words : Over → List ℕ
stroke_words Tree = codes "served"
stroke_words Modules = codes ""

-- no level: as many zeros as there are columns
abbrev pub no_levels : Window → List ℕ
no_levels w = map (λ column. 0) (below (columns_in w))

-- WHAT IT SHOWS, number by number; by which name its file goes there is left open
pub record IsRowMap (P : Project) (plan : MapPlan) (m : CellMap) : Type 0 where
  pub title : m.title ≡ row_title plan
  pub groups : m.groups.items ≡ map (cell_group (row_cells P plan.window)) (row_groups P.k plan.net plan.module plan.way plan.over)
  pub middle : m.middle ≡ 0
  pub most : m.most ≡ depth_of P (depths_of plan.net plan.way plan.over)
  pub marked : m.marked ≡ full_at plan.over (depth_of P (depths_of plan.net plan.way plan.over))
  pub key : m.key.items ≡ row_keys P.k plan.over (depth_of P (depths_of plan.net plan.way plan.over))
  pub crossings : m.crossings.items ≡ []
  pub levels : m.levels.items ≡ no_levels plan.window
  pub highest : m.highest ≡ 0
  pub strokes : m.strokes.items ≡ row_strokes P plan plan.over
  pub ticks : m.ticks.items ≡ ticks_of plan.window
  pub across : m.across.now ≡ codes "cycle"
  pub stroke_title : m.stroke_title.now ≡ stroke_words plan.over
  pub notes : (name : List ℕ) × (m.notes.items ≡ row_notes P plan name)
