-- How curves that stand together are told apart, by their places.
use Rattle.std.specs.Prelude.{ℕ, ◌%◌, ◌==◌, Bool, if◌then◌else◌}
use Rattle.svg_plots.specs.declared.colour.Colour.{Colour}
use Rattle.svg_plots.specs.declared.colour.Colour.TheVariants.{Black, Orange, SkyBlue, Green, Blue, Vermilion, Purple}
use Rattle.svg_plots.specs.declared.element.Mark.{Mark}
use Rattle.svg_plots.specs.declared.element.Mark.TheVariants.{Circle, Square, Diamond, Up, Down, Cross, Plus}
use Rattle.svg_plots.specs.declared.element.Stroke.{Stroke}

-- seven colours, and seven marks
abbrev pub colour_by : ℕ → Colour
colour_by n =
    if n == 0 then Black
    else (if n == 1 then Orange else (if n == 2 then SkyBlue else (if n == 3 then Green else (if n == 4 then Blue else (if n == 5 then Vermilion else Purple)))))

abbrev pub mark_by : ℕ → Mark
mark_by n =
    if n == 0 then Circle
    else (if n == 1 then Square else (if n == 2 then Up else (if n == 3 then Diamond else (if n == 4 then Down else (if n == 5 then Cross else Plus)))))

-- the colour, the mark and the line of a curve by its place
abbrev pub colour_of : ℕ → Colour
colour_of place = colour_by (place % 7)

abbrev pub mark_of : ℕ → Mark
mark_of place = mark_by (place % 7)

abbrev pub stroke_of : ℕ → ℕ → Bool → Stroke
stroke_of place width dashed = record { colour = colour_of place; width = width; dashed = dashed }
