-- What is written for each part of a document.
use Rattle.std.specs.Prelude.{ℕ, ◌/◌, ◌%◌, ◌-◌, ◌==◌, nat_lt, Bool, if◌then◌else◌, List, [], ◌∷◌, ◌++◌, length, unwrap_or, codes, decimal, chars, encode_utf8}
use Rattle.std.specs.List.{flat_map, concat}
use Rattle.svg_plots.specs.Colours.{colour_text}
use Rattle.svg_plots.specs.Entities.{entity_of}
use Rattle.svg_plots.specs.declared.colour.Colour.{Colour}
use Rattle.svg_plots.specs.declared.element.Spot.{Spot}
use Rattle.svg_plots.specs.declared.element.Stroke.{Stroke}
use Rattle.svg_plots.specs.declared.element.Writing.{Writing}
use Rattle.svg_plots.specs.declared.element.Anchor.{Anchor}
use Rattle.svg_plots.specs.declared.element.Anchor.TheVariants.{Start, Middle, End}
use Rattle.svg_plots.specs.declared.element.Mark.{Mark}
use Rattle.svg_plots.specs.declared.element.Mark.TheVariants.{Circle, Square, Diamond, Up, Down, Cross, Plus}

-- tenths of a pixel in pixels, as `12.5`
unfoldable pub tenths_text : ℕ → List ℕ
tenths_text n = if n % 10 == 0 then decimal (n / 10) else decimal (n / 10) ++ codes "." ++ decimal (n % 10)

-- a character where it can stand in a document, else its entity
abbrev pub character_text : ℕ → List ℕ
character_text c = unwrap_or (entity_of c) (encode_utf8 c)

-- a text, character by character
unfoldable pub escaped_text : List ℕ → List ℕ
escaped_text text = flat_map character_text (chars text)

unfoldable pub anchor_text : Anchor → List ℕ
anchor_text Start = codes "start"
anchor_text Middle = codes "middle"
anchor_text End = codes "end"

unfoldable pub dashes_text : Bool → List ℕ
dashes_text dashed = if dashed then codes " stroke-dasharray=\"5 4\"" else []

abbrev pub stroke_text : Stroke → List ℕ
stroke_text s = codes "stroke=\"" ++ (colour_text s.colour ++ (codes "\" stroke-width=\"" ++ (tenths_text s.width ++ (codes "\"" ++ dashes_text s.dashed))))

unfoldable pub weight_text : Bool → List ℕ
weight_text bold = if bold then codes " font-weight=\"bold\"" else []

abbrev pub writing_text : Writing → List ℕ
writing_text how = codes "font-size=\"" ++ (decimal how.size ++ (codes "\" text-anchor=\"" ++ (anchor_text how.anchor ++ (codes "\"" ++ weight_text how.bold))))

-- the path of a mark from its middle: a circle of radius 3.5, a square of 6 by 6, and so on
unfoldable pub mark_text : Mark → List ℕ
mark_text Circle = codes "m-3.5 0a3.5 3.5 0 1 0 7 0a3.5 3.5 0 1 0 -7 0z"
mark_text Square = codes "m-3 -3h6v6h-6z"
mark_text Diamond = codes "m0 -4.5l4 4.5l-4 4.5l-4 -4.5z"
mark_text Up = codes "m0 -4l4 7h-8z"
mark_text Down = codes "m0 4l4 -7h-8z"
mark_text Cross = codes "m-3.5 -3.5l7 7m0 -7l-7 7"
mark_text Plus = codes "m-4 0h8m-4 -4v8"

-- the elements of a document, each a line, by their parts one after another: a straight line, a filled rectangle, the
-- outline of one, a text, a line through several places, a mark
abbrev pub line_text : Spot → Spot → Stroke → List ℕ
line_text from to stroke =
    concat (codes "<line x1=\"" ∷ tenths_text from.x ∷ codes "\" y1=\"" ∷ tenths_text from.y ∷ codes "\" x2=\"" ∷ tenths_text to.x
    ∷ codes "\" y2=\"" ∷ tenths_text to.y ∷ codes "\" " ∷ stroke_text stroke ∷ codes "/>\n" ∷ [])

abbrev pub cell_text : Spot → ℕ → ℕ → Colour → List ℕ
cell_text at width height fill =
    concat (codes "<rect x=\"" ∷ tenths_text at.x ∷ codes "\" y=\"" ∷ tenths_text at.y ∷ codes "\" width=\"" ∷ tenths_text width
    ∷ codes "\" height=\"" ∷ tenths_text height ∷ codes "\" fill=\"" ∷ colour_text fill ∷ codes "\"/>\n" ∷ [])

abbrev pub frame_text : Spot → Spot → Stroke → List ℕ
frame_text from to stroke =
    concat (codes "<rect x=\"" ∷ tenths_text from.x ∷ codes "\" y=\"" ∷ tenths_text from.y ∷ codes "\" width=\""
    ∷ tenths_text (to.x - from.x) ∷ codes "\" height=\"" ∷ tenths_text (to.y - from.y) ∷ codes "\" fill=\"none\" "
    ∷ stroke_text stroke ∷ codes "/>\n" ∷ [])

abbrev pub words_text : Spot → Writing → List ℕ → List ℕ
words_text at how words =
    concat (codes "<text x=\"" ∷ tenths_text at.x ∷ codes "\" y=\"" ∷ tenths_text at.y ∷ codes "\" " ∷ writing_text how ∷ codes ">"
    ∷ escaped_text words ∷ codes "</text>\n" ∷ [])

abbrev pub spots_text : List Spot → List ℕ
spots_text spots = flat_map (λ spot. tenths_text spot.x ++ codes "," ++ tenths_text spot.y ++ codes " ") spots

-- nothing where there are fewer than two places
abbrev pub path_text : List Spot → Stroke → List ℕ
path_text spots stroke =
    if nat_lt (length spots) 2 then []
    else concat (codes "<polyline points=\"" ∷ spots_text spots ∷ codes "\" fill=\"none\" stroke-linejoin=\"round\" " ∷ stroke_text stroke
    ∷ codes "/>\n" ∷ [])

abbrev pub marked_text : Spot → Mark → Colour → List ℕ
marked_text at mark colour =
    concat (codes "<path d=\"M" ∷ tenths_text at.x ∷ codes " " ∷ tenths_text at.y ∷ mark_text mark ∷ codes "\" fill=\"" ∷ colour_text colour
    ∷ codes "\" stroke=\"" ∷ colour_text colour ∷ codes "\" stroke-width=\"1.5\"/>\n" ∷ [])

-- the begin of a white picture of so many pixels with its title, and the end
abbrev pub root_text : ℕ → ℕ → List ℕ
root_text width height =
    concat (codes "<svg xmlns=\"http://www.w3.org/2000/svg\" width=\"" ∷ decimal width ∷ codes "\" height=\"" ∷ decimal height
    ∷ codes "\" viewBox=\"0 0 " ∷ decimal width ∷ codes " " ∷ decimal height
    ∷ codes "\" font-family=\"Helvetica, Arial, sans-serif\" fill=\"#1a1a1a\">\n" ∷ [])

abbrev pub title_text : ℕ → ℕ → List ℕ → List ℕ
title_text width height title =
    concat (codes "<title>" ∷ escaped_text title ∷ codes "</title>\n<rect width=\"" ∷ decimal width ∷ codes "\" height=\"" ∷ decimal height
    ∷ codes "\" fill=\"#ffffff\"/>\n" ∷ [])

abbrev pub opening_text : ℕ → ℕ → List ℕ → List ℕ
opening_text width height title = root_text width height ++ title_text width height title

abbrev pub closing_text : List ℕ
closing_text = codes "</svg>\n"
