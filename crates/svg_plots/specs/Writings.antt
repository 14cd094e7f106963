-- Places, texts and lines that all drawings share.
use Rattle.std.specs.Prelude.{ℕ, ◌+◌, ◌*◌, true, false, List, [], ◌∷◌}
use Rattle.svg_plots.specs.Lists.{few_of}
use Rattle.svg_plots.specs.declared.colour.Colour.TheVariants.{Ink, Grey, Pale}
use Rattle.svg_plots.specs.declared.element.Anchor.{Anchor}
use Rattle.svg_plots.specs.declared.element.Anchor.TheVariants.{Start}
use Rattle.svg_plots.specs.declared.element.Element.{Element}
use Rattle.svg_plots.specs.declared.element.Element.TheVariants.{Words}
use Rattle.svg_plots.specs.declared.element.Spot.{Spot}
use Rattle.svg_plots.specs.declared.element.Stroke.{Stroke}
use Rattle.svg_plots.specs.declared.element.Writing.{Writing}

abbrev pub spot : ℕ → ℕ → Spot
spot x y = record { x = x; y = y }

-- plain text with one end at its place, small text, a title
abbrev pub plain : Anchor → Writing
plain anchor = record { anchor = anchor; size = 12; bold = false }

abbrev pub small : Anchor → Writing
small anchor = record { anchor = anchor; size = 11; bold = false }

abbrev pub tiny : Anchor → Writing
tiny anchor = record { anchor = anchor; size = 8; bold = false }

abbrev pub title_writing : Writing
title_writing = record { anchor = Start; size = 15; bold = true }

-- frames, the lines between groups, fine lines behind curves
abbrev pub frame_stroke : Stroke
frame_stroke = record { colour = Ink; width = 10; dashed = false }

abbrev pub group_stroke : Stroke
group_stroke = record { colour = Grey; width = 6; dashed = false }

abbrev pub fine_stroke : Stroke
fine_stroke = record { colour = Pale; width = 8; dashed = false }

-- a line of text at its place among those that begin at this height
unfoldable pub note_drawn : ℕ → ℕ → List ℕ → List Element
note_drawn top at note = Words (spot 200 (top + 170 * few_of at)) (plain Start) note ∷ []
