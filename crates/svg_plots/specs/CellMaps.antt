-- A MAP OF CELLS AS A DRAWING: a title, the labels of the crossings, a stepped line of levels, the cells, strokes, the numbers of the
-- columns, the key of the shades, lines of text. Places are in tenths of a pixel; the columns lie between 1000 and 6700.
use Rattle.std.specs.Prelude.{ℕ, ◌+◌, ◌-◌, ◌*◌, ◌/◌, ◌≤◌, ◌==◌, nat_le, nat_lt, min, max, Bool, if◌then◌else◌, List, [], ◌∷◌, ◌++◌, length, sum_by, true, false, codes, decimal, Option, None, Some}
use Rattle.std.specs.List.{flat_map}
use Rattle.svg_plots.specs.Places.{place_of}
use Rattle.svg_plots.specs.Lists.{each, each_from, few_of}
use Rattle.svg_plots.specs.Writings.{spot, plain, small, tiny, title_writing, frame_stroke, group_stroke, note_drawn}
use Rattle.svg_plots.specs.Drawings.{drawing_text}
use Rattle.svg_plots.specs.declared.colour.Colour.{Colour}
use Rattle.svg_plots.specs.declared.colour.Colour.TheVariants.{Ink, Light, Vermilion, Shade, Warm}
use Rattle.svg_plots.specs.declared.element.Anchor.TheVariants.{Start, Middle, End}
use Rattle.svg_plots.specs.declared.element.Element.{Element}
use Rattle.svg_plots.specs.declared.element.Element.TheVariants.{Line, Cell, Frame, Words, Path}
use Rattle.svg_plots.specs.declared.element.Spot.{Spot}
use Rattle.svg_plots.specs.declared.map.CellGroup.{CellGroup}
use Rattle.svg_plots.specs.declared.map.CellMap.{CellMap}
use Rattle.svg_plots.specs.declared.map.CellRow.{CellRow}
use Rattle.svg_plots.specs.declared.map.Crossing.{Crossing}
use Rattle.svg_plots.specs.declared.map.Layout.{Layout}
use Rattle.svg_plots.specs.declared.map.Run.{Run}
use Rattle.svg_plots.specs.declared.map.ShadeKey.{ShadeKey}
use Rattle.svg_plots.specs.declared.tick.Tick.{Tick}

-- how many rows the groups have
abbrev pub rows_in : List CellGroup → ℕ
rows_in groups = sum_by (λ group. length group.rows) groups

-- the height of each of so many rows: 260 pixels in all, where that makes at least 9 and at most 20
abbrev pub row_height : ℕ → ℕ
row_height rows = max 90 (min 200 (2600 / max rows 1))

-- from top to bottom: a line for each crossing's label, 9 pixels for each level and at least 18, and some more, where there are levels, the rows
abbrev pub levels_at : CellMap → ℕ
levels_at m = 480 + 140 * few_of (length m.crossings.items)

abbrev pub levels_height : ℕ → ℕ
levels_height highest = if highest == 0 then 0 else 90 * max highest 2 + 160

abbrev pub cells_at : CellMap → ℕ
cells_at m = levels_at m + levels_height m.highest

abbrev pub layout_of : CellMap → Layout
layout_of m = record {
  columns = min (length m.levels.items) 100000;
  levels = levels_at m;
  cells = cells_at m;
  row = row_height (few_of (rows_in m.groups.items));
  below = cells_at m + row_height (few_of (rows_in m.groups.items)) * few_of (rows_in m.groups.items);
}

-- the heights that every map has
abbrev pub IsFit : Layout → Type 0
IsFit l = (l.levels ≤ 141000) × (l.cells ≤ 164000) × (l.row ≤ 200) × (l.below ≤ 364000)

-- the left edge of a column, and the top of a row
abbrev pub x_at : Layout → ℕ → ℕ
x_at l column = place_of 0 l.columns 1000 6700 (min column 100000)

abbrev pub row_at : Layout → ℕ → ℕ
row_at l row = l.cells + l.row * few_of row

-- THE RUNS of equal numbers in a row: from which column, before which one, and the number
unfoldable pub runs_from : ℕ → ℕ → ℕ → List ℕ → List Run
runs_from begin number at [] = record { from = begin; to = at; number = number } ∷ []
runs_from begin number at (n ∷ ns) =
    if n == number then runs_from begin number (at + 1) ns
    else record { from = begin; to = at; number = number } ∷ runs_from at n (at + 1) ns

unfoldable pub runs : List ℕ → List Run
runs [] = []
runs (n ∷ ns) = runs_from 0 n 0 (n ∷ ns)

-- A NUMBER'S SHADE: from white for the one in the middle to the darkest for the greatest number, and to the darkest orange for 0
abbrev pub shade_of : CellMap → ℕ → Colour
shade_of m number =
    if nat_lt number m.middle then Warm (place_of 0 m.middle 0 16 (m.middle - number))
    else Shade (place_of 0 (m.most - m.middle) 0 16 (number - m.middle))

-- a dark line where a number is below the one in the middle, a light one where it is at least the one that is marked
unfoldable pub mark_drawn : CellMap → ℕ → ℕ → ℕ → ℕ → List Element
mark_drawn m number left right y =
    if nat_lt number m.middle then Line (spot left y) (spot right y) (record { colour = Ink; width = 10; dashed = false }) ∷ []
    else (if nat_le m.marked number then Line (spot left y) (spot right y) (record { colour = Light; width = 10; dashed = false }) ∷ [] else [])

-- THE CELLS of a run in a row: a rectangle over its columns in the shade of its number; nothing for the one in the middle
unfoldable pub run_drawn : CellMap → Layout → ℕ → Run → List Element
run_drawn m l top run =
    if run.number == m.middle then []
    else Cell (spot (x_at l run.from) top) (x_at l run.to - x_at l run.from) (l.row - 4) (shade_of m run.number)
    ∷ mark_drawn m run.number (x_at l run.from) (x_at l run.to) (top + (l.row - 4) / 2)

-- a row at its place among all rows, with its label left of it
unfoldable pub row_drawn : CellMap → Layout → ℕ → CellRow → List Element
row_drawn m l at row =
    Words (spot 950 (row_at l at + l.row / 2 + 25)) (tiny End) row.label ∷ flat_map (run_drawn m l (row_at l at)) (runs row.cells)

-- a group whose first row is at this place, with its label left of its middle
unfoldable pub group_drawn : CellMap → Layout → ℕ → CellGroup → List Element
group_drawn m l first group =
    each_from (row_drawn m l) first group.rows
    ++ Line (spot 1000 (row_at l (first + length group.rows))) (spot 6700 (row_at l (first + length group.rows))) group_stroke
    ∷ Words (spot 620 ((row_at l first + row_at l (first + length group.rows)) / 2 + 40)) (plain End) group.label ∷ []

unfoldable pub groups_drawn : CellMap → Layout → ℕ → List CellGroup → List Element
groups_drawn m l first [] = []
groups_drawn m l first (group ∷ groups) = group_drawn m l first group ++ groups_drawn m l (few_of (first + length group.rows)) groups

-- THE LEVEL at each column, as a stepped line
abbrev pub level_at : CellMap → Layout → ℕ → ℕ
level_at m l level = place_of 0 (max m.highest 1) (l.cells - 160) l.levels level

unfoldable pub step_drawn : CellMap → Layout → ℕ → ℕ → List Spot
step_drawn m l column level = spot (x_at l column) (level_at m l level) ∷ spot (x_at l (column + 1)) (level_at m l level) ∷ []

abbrev pub level_words : CellMap → Layout → List ℕ → List Element
level_words m l highest =
    Words (spot 920 (l.levels + 40)) (plain End) highest
    ∷ Words (spot 920 (l.cells - 160 + 40)) (plain End) (codes "0")
    ∷ Words (spot 200 ((l.levels + (l.cells - 160)) / 2 + 40)) (plain Start) m.level_title.now ∷ []

unfoldable pub levels_drawn : CellMap → Layout → List Element
levels_drawn m l =
    if m.highest == 0 then []
    else Line (spot 1000 (l.cells - 160)) (spot 6700 (l.cells - 160)) group_stroke
    ∷ Path (each (step_drawn m l) m.levels.items) (record { colour = Ink; width = 15; dashed = false })
    ∷ level_words m l (decimal m.highest)

-- A CROSSING: a dashed line down through all at its column, and its label on a line of its own; the label alone where it has no column
abbrev pub crossing_at : Layout → ℕ → List ℕ → Option ℕ → List Element
crossing_at l y label None = Words (spot 1040 y) (small Start) label ∷ []
crossing_at l y label (Some column) =
    Line (spot (x_at l column) (y - 100)) (spot (x_at l column) (l.below + 280)) (record { colour = Vermilion; width = 10; dashed = true })
    ∷ Words (spot (x_at l column + 40) y) (small Start) label ∷ []

unfoldable pub crossing_drawn : Layout → ℕ → Crossing → List Element
crossing_drawn l at crossing = crossing_at l (520 + 140 * few_of at) crossing.label crossing.column

-- A STROKE at each column that has one
unfoldable pub stroke_drawn : Layout → ℕ → Bool → List Element
stroke_drawn l column stroke =
    if stroke then Cell (spot (x_at l column) (l.below + 120)) (max 6 ((x_at l (column + 1) - x_at l column) / 2)) 120 Ink ∷ [] else []

-- the number of a column under the line of the columns
unfoldable pub tick_drawn : Layout → Tick → List Element
tick_drawn l tick =
    Line (spot (x_at l tick.value) (l.below + 280)) (spot (x_at l tick.value) (l.below + 330)) frame_stroke
    ∷ Words (spot (x_at l tick.value) (l.below + 460)) (plain Middle) (decimal tick.number) ∷ []

-- an entry of the key: a framed square of its number's shade, and its label
unfoldable pub key_drawn : CellMap → Layout → ℕ → ShadeKey → List Element
key_drawn m l at key =
    Cell (spot 6850 (l.cells + 140 * few_of at)) 240 110 (shade_of m key.number)
    ∷ Frame (spot 6850 (l.cells + 140 * few_of at)) (spot 7090 (l.cells + 140 * few_of at + 110)) group_stroke
    ∷ mark_drawn m key.number 6850 7090 (l.cells + 140 * few_of at + 55)
    ++ Words (spot 7150 (l.cells + 140 * few_of at + 95)) (plain Start) key.label ∷ []

-- the parts one after another
unfoldable pub cells_drawn : CellMap → Layout → List Element
cells_drawn m l = groups_drawn m l 0 m.groups.items ++ Frame (spot 1000 l.cells) (spot 6700 l.below) frame_stroke ∷ []

unfoldable pub strokes_drawn : CellMap → Layout → List Element
strokes_drawn m l = each (stroke_drawn l) m.strokes.items ++ Words (spot 920 (l.below + 220)) (plain End) m.stroke_title.now ∷ []

unfoldable pub columns_drawn : CellMap → Layout → List Element
columns_drawn m l =
    Line (spot 1000 (l.below + 280)) (spot 6700 (l.below + 280)) frame_stroke
    ∷ flat_map (tick_drawn l) m.ticks.items ++ Words (spot 820 (l.below + 460)) (plain End) m.across.now ∷ []

-- where the lines of text begin: under all of that
abbrev pub notes_at : CellMap → Layout → ℕ
notes_at m l = max (l.below + 760) (l.cells + 140 * few_of (length m.key.items) + 140)

-- THE ELEMENTS of a map, and its document: 800 pixels wide, and as high as they need
abbrev pub map_elements : CellMap → Layout → List Element
map_elements m l =
    Words (spot 200 250) title_writing m.title
    ∷ cells_drawn m l ++ each (crossing_drawn l) m.crossings.items ++ levels_drawn m l ++ strokes_drawn m l
    ++ columns_drawn m l ++ each (key_drawn m l) m.key.items ++ each (note_drawn (notes_at m l)) m.notes.items

abbrev pub map_height : CellMap → Layout → ℕ
map_height m l = notes_at m l / 10 + 17 * few_of (length m.notes.items)

unfoldable pub map_text : CellMap → List ℕ
map_text m = drawing_text 800 (map_height m (layout_of m)) m.title (map_elements m (layout_of m))
