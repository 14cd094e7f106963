-- WHAT A MAP OF TWO RUNS SHOWS: of each queue how much longer it is in one run than in the other, cycle by cycle.
use Rattle.std.specs.Prelude.{◌≡◌, ℕ, ◌+◌, ◌-◌, ◌*◌, ◌==◌, min, max, nat_le, nat_lt, if◌then◌else◌, List, [], ◌∷◌, ◌++◌, map, codes, decimal}
use Rattle.std.specs.List.{fold}
use Rattle.omega_net.specs.declared.component.Net.{Net}
use Rattle.omega_net.specs.Wires.{below}
use Rattle.project_book.specs.Project.{Project, depth_of}
use Rattle.run_reports.specs.declared.full_queues.PartQueue.{PartQueue}
use Rattle.experiments.specs.declared.map.Window.{Window}
use Rattle.svg_plots.specs.declared.map.CellMap.{CellMap}
use Rattle.svg_plots.specs.declared.map.ShadeKey.{ShadeKey}
use Rattle.svg_plots.specs.CellMaps.{map_text}
use Rattle.lab_tasks.specs.declared.map_rows.MapRow.{MapRow}
use Rattle.lab_tasks.specs.declared.map_rows.Over.{Over}
use Rattle.lab_tasks.specs.declared.map_rows.Over.TheVariants.{Tree, Modules}
use Rattle.lab_tasks.specs.declared.plan.MapPlan.{MapPlan}
use Rattle.lab_tasks.specs.Columns.{cycles_a_column, farthest_columns, greatest_of}
use Rattle.lab_tasks.specs.MapPictures.{combining_notes, places_note, ticks_of}
use Rattle.lab_tasks.specs.MapRows.{cell_group, queues_in, row_groups}
use Rattle.lab_tasks.specs.RowMaps.{depths_of, lengths_in, no_levels, row_title}

-- the number of two lengths: d where they are one, more by as much as the first is longer, less by as much as the second is, as far as d
-- allows
abbrev pub difference : ℕ → ℕ → ℕ → ℕ
difference d a b = if nat_le b a then d + min d (a - b) else d - (b - a)

-- those of two lists, place by place
unfoldable pub differences : ℕ → List ℕ → List ℕ → List ℕ
differences d [] bs = []
differences d (a ∷ us) [] = []
differences d (a ∷ us) (b ∷ bs) = difference d a b ∷ differences d us bs

-- how many places the queues have, where they have more
abbrev pub depth_drawn : Project → Project → MapPlan → ℕ
depth_drawn P Q plan = max (depth_of P (depths_of plan.net plan.way plan.over)) (depth_of Q (depths_of plan.net plan.way plan.over))

-- a queue in the cycles of a window, and a row's cells: the number of each column that is farthest from that of equal lengths
abbrev pub compared_in : Project → Project → MapPlan → PartQueue → List ℕ
compared_in P Q plan q = differences (depth_drawn P Q plan) (lengths_in P plan.window q) (lengths_in Q plan.window q)

abbrev pub compared_cells : Project → Project → MapPlan → MapRow → List ℕ
compared_cells P Q plan r = farthest_columns (depth_drawn P Q plan) plan.window (compared_in P Q plan r.queue)

-- the greatest difference either way, in one queue and in all that are drawn
abbrev pub most_longer : ℕ → List ℕ → ℕ
most_longer d ns = fold (λ most n. max most (d - n)) 0 ns

abbrev pub most_shorter : ℕ → List ℕ → ℕ
most_shorter d ns = fold (λ most n. max most (n - d)) 0 ns

abbrev pub all_compared : Project → Project → MapPlan → List (List ℕ)
all_compared P Q plan = map (compared_in P Q plan) (queues_in (row_groups P.k plan.net plan.module plan.way plan.over))

-- the key: each number with how much longer the second is
abbrev pub key_text : ℕ → ℕ → List ℕ
key_text d n = if nat_lt n d then codes "+" ++ decimal (d - n) else (if nat_lt d n then codes "-" ++ decimal (n - d) else codes "0")

abbrev pub compared_key : ℕ → ℕ → ShadeKey
compared_key d n = record { number = n; label = key_text d n }

abbrev pub compared_keys : ℕ → Over → ℕ → List ShadeKey
compared_keys k Tree d = if k == 0 then [] else map (compared_key d) (below (2 * d + 1))
compared_keys k Modules d = map (compared_key d) (below (2 * d + 1))

abbrev pub compared_title : MapPlan → List ℕ
compared_title plan = codes "B against A. " ++ row_title plan

-- THE LINES BELOW: the names of both files and the cycles; what shades are; the greatest differences; of each file the places of queues and
-- which stages combine; what a column is of
abbrev pub names_note : List ℕ → List ℕ → Window → List ℕ
names_note a b w =
    codes "A is " ++ (a ++ (codes ", B is " ++ (b ++ (codes "; cycles " ++ (decimal w.from ++ (codes " to " ++ (decimal w.to ++ codes ".")))))))

abbrev pub shade_note : List ℕ
shade_note = codes "Orange with a dark line: the queue is longer in B. Blue: shorter in B. White: as long in both. The key says B less A."

abbrev pub greatest_words : ℕ → ℕ → List ℕ
greatest_words longer shorter =
    codes "At most " ++ (decimal longer ++ (codes " longer in B, and " ++ (decimal shorter ++ codes " shorter, of all rows and cycles.")))

abbrev pub greatest_note : ℕ → List (List ℕ) → List ℕ
greatest_note d nss = greatest_words (greatest_of (map (most_longer d) nss)) (greatest_of (map (most_shorter d) nss))

abbrev pub own_notes : List ℕ → Project → Net → List (List ℕ)
own_notes letter P net = map (λ note. letter ++ note) (places_note P net ∷ combining_notes P net)

abbrev pub compared_column_note : ℕ → List ℕ
compared_column_note each = codes "A column is " ++ (decimal each ++ codes " cycles: the greatest difference in them, either way.")

abbrev pub compared_column_notes : ℕ → List (List ℕ)
compared_column_notes each = if nat_le each 1 then [] else compared_column_note each ∷ []

abbrev pub compared_notes : Project → Project → MapPlan → List ℕ → List ℕ → List (List ℕ)
compared_notes P Q plan a b =
    names_note a b plan.window ∷ shade_note ∷ greatest_note (depth_drawn P Q plan) (all_compared P Q plan)
    ∷ own_notes (codes "A: ") P plan.net ++ (own_notes (codes "B: ") Q plan.net ++ compared_column_notes (cycles_a_column plan.window))

-- WHAT IT SHOWS, number by number; by which names the files go there is left open
pub record IsComparedMap (P Q : Project) (plan : MapPlan) (m : CellMap) : Type 0 where
  pub title : m.title ≡ compared_title plan
  pub groups : m.groups.items ≡ map (cell_group (compared_cells P Q plan)) (row_groups P.k plan.net plan.module plan.way plan.over)
  pub middle : m.middle ≡ depth_drawn P Q plan
  pub most : m.most ≡ 2 * depth_drawn P Q plan
  pub marked : m.marked ≡ 2 * depth_drawn P Q plan + 1
  pub key : m.key.items ≡ compared_keys P.k plan.over (depth_drawn P Q plan)
  pub crossings : m.crossings.items ≡ []
  pub levels : m.levels.items ≡ no_levels plan.window
  pub highest : m.highest ≡ 0
  pub strokes : m.strokes.items ≡ []
  pub ticks : m.ticks.items ≡ ticks_of plan.window
  pub across : m.across.now ≡ codes "cycle"
  pub stroke_title : m.stroke_title.now ≡ codes ""
  pub notes : (a b : List ℕ) × (m.notes.items ≡ compared_notes P Q plan a b)

abbrev pub IsComparedDrawn : Project → Project → MapPlan → List ℕ → Type 0
IsComparedDrawn P Q plan text = (m : CellMap) × IsComparedMap P Q plan m × (text ≡ map_text m)
