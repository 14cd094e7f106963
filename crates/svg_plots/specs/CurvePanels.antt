-- PANELS OF CURVES AS A DRAWING: a title, the panels side by side, the legend of the first one's curves, lines of text. Places are in tenths
-- of a pixel; panels lie between 460 and 7800 across, and from 860 to 3860 down.
use Rattle.std.specs.Prelude.{ℕ, ◌+◌, ◌-◌, ◌*◌, ◌/◌, ◌%◌, ◌≡◌, ◌≤◌, nat_lt, min, max, Bool, true, false, if◌then◌else◌, List, [], ◌∷◌, ◌++◌, map, length, decimal, Option, None, Some}
use Rattle.std.specs.List.{flat_map, fold}
use Rattle.svg_plots.specs.Places.{place_of}
use Rattle.svg_plots.specs.Lists.{each, few_of}
use Rattle.svg_plots.specs.Writings.{spot, plain, title_writing, fine_stroke, frame_stroke, note_drawn}
use Rattle.svg_plots.specs.Drawings.{drawing_text}
use Rattle.svg_plots.specs.declared.colour.Colour.{Colour}
use Rattle.svg_plots.specs.declared.curves.Area.{Area}
use Rattle.svg_plots.specs.declared.curves.Axis.{Axis}
use Rattle.svg_plots.specs.declared.curves.Curve.{Curve}
use Rattle.svg_plots.specs.declared.curves.Curves.{Curves}
use Rattle.svg_plots.specs.declared.curves.Panel.{Panel}
use Rattle.svg_plots.specs.declared.curves.Whisker.{Whisker}
use Rattle.svg_plots.specs.declared.element.Anchor.TheVariants.{Start, Middle, End}
use Rattle.svg_plots.specs.declared.element.Element.{Element}
use Rattle.svg_plots.specs.declared.element.Element.TheVariants.{Line, Frame, Words, Path, Marked}
use Rattle.svg_plots.specs.declared.element.Mark.{Mark}
use Rattle.svg_plots.specs.declared.element.Spot.{Spot}
use Rattle.svg_plots.specs.declared.element.Stroke.{Stroke}
use Rattle.svg_plots.specs.declared.scale.Scale.{Scale}
use Rattle.svg_plots.specs.declared.tick.Tick.{Tick}

-- where a scale places a value
abbrev pub placed : Scale → ℕ → ℕ
placed s value = place_of s.from s.to s.start s.«end» value

-- the area of one of so many panels: they share the width, with 52 pixels between
abbrev pub width_of : ℕ → ℕ
width_of count = 7860 / max (min count 8) 1

abbrev pub left_of : ℕ → ℕ → ℕ
left_of place count = 460 + min place 8 * width_of count

abbrev pub area_of : Panel → ℕ → ℕ → Area
area_of panel place count = record {
  left = left_of place count;
  right = left_of place count + (width_of count - 520);
  across = record { from = panel.across.from; to = panel.across.to; start = left_of place count; «end» = left_of place count + (width_of count - 520) };
  up = record { from = panel.up.from; to = panel.up.to; start = 3860; «end» = 860 };
}

-- an area within the picture, whose values go up
abbrev pub IsInside : Area → Type 0
IsInside a =
    (a.left ≤ 100000) × (a.right ≤ 100000) × (a.across.start ≤ 100000) × (a.across.«end» ≤ 100000) × (a.up.start ≡ 3860) × (a.up.«end» ≡ 860)

-- A POINT stands where its scales place its values
abbrev pub spot_in : Area → ℕ × ℕ → Spot
spot_in a point = spot (placed a.across point.0) (placed a.up point.1)

-- the number of a tick, with a fine line through the panel
unfoldable pub across_tick : Area → Tick → List Element
across_tick a tick =
    Line (spot (placed a.across tick.value) 860) (spot (placed a.across tick.value) 3860) fine_stroke
    ∷ Words (spot (placed a.across tick.value) 4030) (plain Middle) (decimal tick.number) ∷ []

unfoldable pub up_tick : Area → Tick → List Element
up_tick a tick =
    Line (spot a.left (placed a.up tick.value)) (spot a.right (placed a.up tick.value)) fine_stroke
    ∷ Words (spot (a.left - 60) (placed a.up tick.value + 40)) (plain End) (decimal tick.number) ∷ []

unfoldable pub across_drawn : Area → Axis → List Element
across_drawn a axis = flat_map (across_tick a) axis.ticks.now ++ Words (spot ((a.left + a.right) / 2) 4200) (plain Middle) axis.title.now ∷ []

unfoldable pub up_drawn : Area → Axis → List Element
up_drawn a axis = flat_map (up_tick a) axis.ticks.now ++ Words (spot (a.left - 260) 740) (plain Start) axis.title.now ∷ []

-- A WHISKER: a line over its values, with a line of 11 pixels across at each end
abbrev pub whisker_stroke : Colour → Stroke
whisker_stroke colour = record { colour = colour; width = 10; dashed = false }

abbrev pub cap_drawn : Area → Colour → ℕ → ℕ → Element
cap_drawn a colour across value =
    Line (spot (placed a.across across - 55) (placed a.up value)) (spot (placed a.across across + 55) (placed a.up value)) (whisker_stroke colour)

unfoldable pub whisker_drawn : Area → Colour → Whisker → List Element
whisker_drawn a colour w =
    Line (spot_in a (w.across, w.from)) (spot_in a (w.across, w.to)) (whisker_stroke colour)
    ∷ cap_drawn a colour w.across w.from ∷ cap_drawn a colour w.across w.to ∷ []

-- A CURVE: a line through its points, its whiskers, and its mark at each of the points
abbrev pub marks_drawn : Area → Colour → List (ℕ × ℕ) → Option Mark → List Element
marks_drawn a colour points None = []
marks_drawn a colour points (Some mark) = map (λ point. Marked (spot_in a point) mark colour) points

unfoldable pub curve_drawn : Area → Curve → List Element
curve_drawn a curve =
    Path (map (spot_in a) curve.points) curve.stroke
    ∷ flat_map (whisker_drawn a curve.stroke.colour) curve.whiskers ++ marks_drawn a curve.stroke.colour curve.points curve.mark

unfoldable pub panel_drawn : Area → Panel → List Element
panel_drawn a panel =
    Words (spot (a.left - 260) 540) (record { anchor = Start; size = 13; bold = true }) panel.title.now
    ∷ across_drawn a panel.across ++ up_drawn a panel.up ++ Frame (spot a.left 860) (spot a.right 3860) frame_stroke
    ∷ flat_map (curve_drawn a) panel.curves.items

unfoldable pub panels_drawn : List Panel → List Element
panels_drawn panels = each (λ place panel. panel_drawn (area_of panel place (length panels)) panel) panels

-- the legend of a curve at a place: a piece of its line, its mark, its label
abbrev pub mark_drawn : Spot → Colour → Option Mark → List Element
mark_drawn at colour None = []
mark_drawn at colour (Some mark) = Marked at mark colour ∷ []

unfoldable pub label_drawn : ℕ → ℕ → Curve → List Element
label_drawn x y curve =
    Line (spot x (y - 40)) (spot (x + 240) (y - 40)) curve.stroke
    ∷ mark_drawn (spot (x + 120) (y - 40)) curve.stroke.colour curve.mark ++ Words (spot (x + 300) y) (plain Start) curve.label ∷ []

-- a curve that has a label is named, at the next place of the legend
abbrev pub is_named : Curve → Bool
is_named curve = nat_lt 0 (length curve.label)

abbrev pub place_after : ℕ → Curve → ℕ
place_after place curve = if is_named curve then few_of (place + 1) else place

-- the place's column and row
unfoldable pub named_drawn : ℕ → ℕ → Curve → List Element
named_drawn columns place curve =
    if is_named curve then label_drawn (460 + place % columns * (7340 / columns)) (4500 + place / columns * 200) curve else []

unfoldable pub legend_from : ℕ → ℕ → List Curve → List Element
legend_from columns place [] = []
legend_from columns place (curve ∷ curves) = named_drawn columns place curve ++ legend_from columns (place_after place curve) curves

abbrev pub columns_of : Curves → ℕ
columns_of c = max c.legend_columns 1

unfoldable pub legend_of : List Panel → List Curve
legend_of [] = []
legend_of (panel ∷ panels) = panel.curves.items

-- how many curves are named, and the rows of their legend
abbrev pub named_in : List Curve → ℕ
named_in curves = fold place_after 0 curves

abbrev pub legend_rows : Curves → ℕ
legend_rows c = (named_in (legend_of c.panels.now) + columns_of c - 1) / columns_of c

-- THE ELEMENTS of panels, and their document: 800 pixels wide, and as high as they need
abbrev pub curves_elements : Curves → List (List ℕ) → List Element
curves_elements c notes =
    Words (spot 200 250) title_writing c.title.now
    ∷ panels_drawn c.panels.now ++ legend_from (columns_of c) 0 (legend_of c.panels.now)
    ++ each (note_drawn (4560 + 200 * few_of (legend_rows c))) notes

abbrev pub curves_height : Curves → List (List ℕ) → ℕ
curves_height c notes = 450 + 20 * few_of (legend_rows c) + 17 * few_of (length notes)

unfoldable pub curves_text : Curves → List (List ℕ) → List ℕ
curves_text c notes = drawing_text 800 (curves_height c notes) c.title.now (curves_elements c notes)
