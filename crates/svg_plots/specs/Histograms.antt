-- BARS OVER ONE PAIR OF AXES AS A DRAWING: a title, the panel with its axes, a bar for each value that has one, lines of text. Places are in
-- tenths of a pixel.
use Rattle.std.specs.Prelude.{ℕ, ◌+◌, ◌-◌, ◌*◌, min, max, List, [], ◌∷◌, ◌++◌, length}
use Rattle.std.specs.List.{flat_map}
use Rattle.svg_plots.specs.Lists.{each, few_of}
use Rattle.svg_plots.specs.Writings.{spot, title_writing, note_drawn}
use Rattle.svg_plots.specs.Drawings.{drawing_text}
use Rattle.svg_plots.specs.CurvePanels.{area_of, panel_drawn, placed}
use Rattle.svg_plots.specs.declared.colour.Colour.{Colour}
use Rattle.svg_plots.specs.declared.curves.Area.{Area}
use Rattle.svg_plots.specs.declared.element.Element.{Element}
use Rattle.svg_plots.specs.declared.element.Element.TheVariants.{Cell, Words}
use Rattle.svg_plots.specs.declared.histogram.Histogram.{Histogram}
use Rattle.svg_plots.specs.declared.histogram.PanelBar.{PanelBar}

-- A BAR stands on the axis across, over its values, as high as its value up; it is at least a pixel wide and a pixel high
abbrev pub top_of : Area → PanelBar → ℕ
top_of a b = min (placed a.up b.height) 3850

unfoldable pub bar_drawn : Area → Colour → PanelBar → List Element
bar_drawn a colour b =
    Cell (spot (placed a.across b.from) (top_of a b)) (max (placed a.across b.to - placed a.across b.from) 10) (3860 - top_of a b) colour ∷ []

-- THE ELEMENTS, and their document: 800 pixels wide, and as high as they need
abbrev pub histogram_elements : Histogram → List (List ℕ) → List Element
histogram_elements h notes =
    Words (spot 200 250) title_writing h.title.now
    ∷ panel_drawn (area_of h.panel.now 0 1) h.panel.now ++ flat_map (bar_drawn (area_of h.panel.now 0 1) h.colour) h.bars.now ++ each (note_drawn 4560) notes

abbrev pub histogram_height : List (List ℕ) → ℕ
histogram_height notes = 450 + 17 * few_of (length notes)

unfoldable pub histogram_text : Histogram → List (List ℕ) → List ℕ
histogram_text h notes = drawing_text 800 (histogram_height notes) h.title.now (histogram_elements h notes)
