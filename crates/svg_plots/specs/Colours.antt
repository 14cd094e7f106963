-- Colours as they are written: red, green and blue, each by two hexadecimal digits.
use Rattle.std.specs.Prelude.{ℕ, ◌==◌, if◌then◌else◌, List, codes}
use Rattle.svg_plots.specs.declared.colour.Colour.{Colour}
use Rattle.svg_plots.specs.declared.colour.Colour.TheVariants.{Ink, Grey, Pale, Light, Black, Orange, SkyBlue, Green, Blue, Vermilion, Purple, Shade, Warm}

-- the shades, from white to dark blue
unfoldable pub shade_text : ℕ → List ℕ
shade_text n =
    if n == 0 then codes "#ffffff"
    else (if n == 1 then codes "#f1f7fc"
    else (if n == 2 then codes "#e3eef9"
    else (if n == 3 then codes "#d5e5f4"
    else (if n == 4 then codes "#c6dbef"
    else (if n == 5 then codes "#b2d3e8"
    else (if n == 6 then codes "#9ecae1"
    else (if n == 7 then codes "#85bcdc"
    else (if n == 8 then codes "#6baed6"
    else (if n == 9 then codes "#57a0ce"
    else (if n == 10 then codes "#4292c6"
    else (if n == 11 then codes "#3282be"
    else (if n == 12 then codes "#2171b5"
    else (if n == 13 then codes "#1561a9"
    else (if n == 14 then codes "#08519c"
    else (if n == 15 then codes "#084184"
    else codes "#08306b")))))))))))))))

-- and from white to orange
unfoldable pub warm_text : ℕ → List ℕ
warm_text n =
    if n == 0 then codes "#ffffff"
    else (if n == 1 then codes "#fff6ed"
    else (if n == 2 then codes "#feecda"
    else (if n == 3 then codes "#fee3c8"
    else (if n == 4 then codes "#fedbb8"
    else (if n == 5 then codes "#fdd3a8"
    else (if n == 6 then codes "#fdc894"
    else (if n == 7 then codes "#fdbb80"
    else (if n == 8 then codes "#fdae6b"
    else (if n == 9 then codes "#fda259"
    else (if n == 10 then codes "#fd9548"
    else (if n == 11 then codes "#fc8837"
    else (if n == 12 then codes "#f77b28"
    else (if n == 13 then codes "#f26e18"
    else (if n == 14 then codes "#eb610e"
    else (if n == 15 then codes "#e25408"
    else codes "#d94801")))))))))))))))

unfoldable pub colour_text : Colour → List ℕ
colour_text Ink = codes "#1a1a1a"
colour_text Grey = codes "#9a9a9a"
colour_text Pale = codes "#d4d4d4"
colour_text Light = codes "#ffd75e"
colour_text Black = codes "#000000"
colour_text Orange = codes "#e69f00"
colour_text SkyBlue = codes "#56b4e9"
colour_text Green = codes "#009e73"
colour_text Blue = codes "#0072b2"
colour_text Vermilion = codes "#d55e00"
colour_text Purple = codes "#cc79a7"
colour_text (Shade n) = shade_text n
colour_text (Warm n) = warm_text n
