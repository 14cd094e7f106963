-- A DRAWING: elements, of which later ones lie over earlier ones, and the document that it is written as.
use Rattle.std.specs.Prelude.{ℕ, List, ◌++◌}
use Rattle.std.specs.List.{flat_map}
use Rattle.svg_plots.specs.Texts.{line_text, cell_text, frame_text, words_text, path_text, marked_text, opening_text, closing_text}
use Rattle.svg_plots.specs.declared.element.Element.{Element}
use Rattle.svg_plots.specs.declared.element.Element.TheVariants.{Line, Cell, Frame, Words, Path, Marked}

-- what an element is written as
unfoldable pub element_text : Element → List ℕ
element_text (Line from to stroke) = line_text from to stroke
element_text (Cell at width height fill) = cell_text at width height fill
element_text (Frame from to stroke) = frame_text from to stroke
element_text (Words at how words) = words_text at how words
element_text (Path spots stroke) = path_text spots stroke
element_text (Marked at mark colour) = marked_text at mark colour

abbrev pub elements_text : List Element → List ℕ
elements_text elements = flat_map element_text elements

-- the document of a drawing of so many pixels with its title
abbrev pub drawing_text : ℕ → ℕ → List ℕ → List Element → List ℕ
drawing_text width height title elements = opening_text width height title ++ (elements_text elements ++ closing_text)
