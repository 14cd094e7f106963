-- WHAT A SPACE-TIME DIAGRAM SHOWS: bars in lanes over columns of time, each with a numbered dot, and lines between dots. Lengths are tenths of
-- a pixel.
use Rattle.std.specs.Prelude.{ℕ, ◌+◌, ◌-◌, ◌*◌, ◌/◌, ◌&&◌, nat_le, Bool, true, false, if◌then◌else◌, List, [], ◌∷◌, ◌++◌, Option, None, Some, codes, decimal, max, min}
use Rattle.std.specs.List.{flat_map}
use Rattle.svg_plots.specs.Places.{place_of}
use Rattle.svg_plots.specs.Ticks.{step_of}
use Rattle.svg_plots.specs.Drawings.{drawing_text}
use Rattle.svg_plots.specs.declared.colour.Colour.{Colour}
use Rattle.svg_plots.specs.declared.colour.Colour.TheVariants.{Ink, Pale}
use Rattle.svg_plots.specs.declared.element.Anchor.{Anchor}
use Rattle.svg_plots.specs.declared.element.Anchor.TheVariants.{Start, Middle, End}
use Rattle.svg_plots.specs.declared.element.Mark.TheVariants.{Circle}
use Rattle.svg_plots.specs.declared.element.Spot.{Spot}
use Rattle.svg_plots.specs.declared.element.Stroke.{Stroke}
use Rattle.svg_plots.specs.declared.element.Writing.{Writing}
use Rattle.svg_plots.specs.declared.element.Element.{Element}
use Rattle.svg_plots.specs.declared.element.Element.TheVariants.{Line, Cell, Words, Marked}
use Rattle.svg_plots.specs.declared.timeline.Bar.{Bar}
use Rattle.svg_plots.specs.declared.timeline.Join.{Join}
use Rattle.svg_plots.specs.declared.timeline.Band.{Band}
use Rattle.svg_plots.specs.declared.timeline.Key.{Key}
use Rattle.svg_plots.specs.declared.timeline.Columns.{Columns}
use Rattle.svg_plots.specs.declared.timeline.Timeline.{Timeline}

-- a place; a line's kind; plain text of a size
abbrev pub spot : ℕ → ℕ → Spot
spot x y = record { x = x; y = y }

abbrev pub stroke : Colour → ℕ → Stroke
stroke colour width = record { colour = colour; width = width; dashed = false }

abbrev pub writing : Anchor → ℕ → Bool → Writing
writing anchor size bold = record { anchor = anchor; size = size; bold = bold }

-- where a column stands, from 90 to 770 pixels; the top of a lane, of which each is 14 pixels high; the middle of its bars
abbrev pub column_x : Columns → ℕ → ℕ
column_x c column = place_of c.from c.to 900 7700 column

abbrev pub lane_y : ℕ → ℕ
lane_y lane = 700 + 140 * lane

abbrev pub middle_y : ℕ → ℕ
middle_y lane = lane_y lane + 105

-- whether a column is among those that are drawn
abbrev pub is_in : Columns → ℕ → Bool
is_in c column = nat_le c.from column && nat_le column c.to

-- a bar from its first column to its last, at least a pixel long
abbrev pub bar_cell : Columns → Bar → Element
bar_cell c b =
    Cell (spot (column_x c b.from) (lane_y b.lane + 85)) (max (column_x c b.to - column_x c b.from) 10) 40 b.colour

-- its dot in its own column, with its number behind it, where that column is drawn
abbrev pub dot_elements : Columns → Bar → List Element
dot_elements c b =
    if is_in c b.dot
    then Marked (spot (column_x c b.dot) (middle_y b.lane)) Circle Ink
    ∷ Words (spot (column_x c b.dot + 45) (lane_y b.lane + 75)) (writing Start 9 false) (decimal b.number) ∷ []
    else []

abbrev pub bar_elements : Columns → Bar → List Element
bar_elements c b = bar_cell c b ∷ dot_elements c b

-- a line between two dots of one column, where that is drawn
abbrev pub join_elements : Columns → Join → List Element
join_elements c j =
    if is_in c j.column
    then Line (spot (column_x c j.column) (middle_y j.first)) (spot (column_x c j.column) (middle_y j.second)) (stroke Ink 15) ∷ []
    else []

-- a label: a name and a number
abbrev pub named : List ℕ → ℕ → List ℕ
named name n = name ++ (codes " " ++ decimal n)

-- a band of lanes: a line above it, and its label beside its first lane
abbrev pub band_elements : List ℕ → Band → List Element
band_elements name b =
    Line (spot 200 (lane_y b.lane)) (spot 7700 (lane_y b.lane)) (stroke Pale 8)
    ∷ Words (spot 820 (lane_y b.lane + 125)) (writing End 11 false) (named name b.number) ∷ []

-- ticks stand in the first column and each so many columns from there, ten at most; each has a line through all lanes, and its number below
abbrev pub ticks : List ℕ
ticks = 0 ∷ 1 ∷ 2 ∷ 3 ∷ 4 ∷ 5 ∷ 6 ∷ 7 ∷ 8 ∷ 9 ∷ []

abbrev pub tick_at : Columns → ℕ → Option ℕ
tick_at c i = if nat_le (c.from + step_of (c.to - c.from) 8 * i) c.to then Some (c.from + step_of (c.to - c.from) 8 * i) else None

abbrev pub drawn_tick : Columns → ℕ → Option ℕ → List Element
drawn_tick c lanes None = []
drawn_tick c lanes (Some column) =
    Line (spot (column_x c column) 700) (spot (column_x c column) (lane_y lanes + 50)) (stroke Pale 8)
    ∷ Words (spot (column_x c column) (lane_y lanes + 180)) (writing Middle 11 false) (decimal column) ∷ []

abbrev pub tick_elements : Columns → ℕ → ℕ → List Element
tick_elements c lanes i = drawn_tick c lanes (tick_at c i)

-- what a colour stands for, by its place above the lanes
abbrev pub key_elements : List ℕ → Key → List Element
key_elements name k =
    Cell (spot (900 + 1360 * k.place) 470) 240 60 k.colour
    ∷ Words (spot (1200 + 1360 * k.place) 540) (writing Start 11 false) (named name k.number) ∷ []

-- the line below all lanes, with what the columns are
abbrev pub ground_elements : ℕ → List ℕ → List Element
ground_elements lanes across =
    Line (spot 200 (lane_y lanes)) (spot 7700 (lane_y lanes)) (stroke Ink 10)
    ∷ Words (spot 740 (lane_y lanes + 180)) (writing End 11 false) across ∷ []

-- the title above, and two lines of text below
abbrev pub title_words : List ℕ → Element
title_words title = Words (spot 200 250) (writing Start 15 true) title

abbrev pub note_elements : ℕ → List ℕ → List ℕ → List Element
note_elements lanes first second =
    Words (spot 200 (lane_y lanes + 400)) (writing Start 11 false) first ∷ Words (spot 200 (lane_y lanes + 560)) (writing Start 11 false) second ∷ []

-- all of it: what comes later lies over what comes before
abbrev pub scale_elements : Timeline → List Element
scale_elements t =
    title_words t.title.now ∷ flat_map (tick_elements t.columns t.lanes) ticks ++ flat_map (band_elements t.band_name.now) t.bands.now
    ++ ground_elements t.lanes t.across.now ++ flat_map (key_elements t.key_name.now) t.keys.now

abbrev pub timeline_elements : Timeline → List Element
timeline_elements t =
    scale_elements t ++ flat_map (join_elements t.columns) t.joins.now ++ flat_map (bar_elements t.columns) t.bars.now
    ++ note_elements t.lanes t.note.now t.last_note.now

-- its height in pixels
abbrev pub timeline_height : ℕ → ℕ
timeline_height lanes = min (lane_y lanes / 10 + 64) 65535

-- the document
abbrev pub timeline_text : Timeline → List ℕ
timeline_text t = drawing_text 800 (timeline_height t.lanes) t.title.now (timeline_elements t)
