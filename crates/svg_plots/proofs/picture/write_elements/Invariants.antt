use Rattle.std.proofs.Common.{◌≡◌, ◌++◌, take, string_bytes}
use Rattle.svg_plots.specs.Drawings.{elements_text}
use Rattle.svg_plots.proofs.picture.write_elements.Given as goal

abbrev pub invariant-loop-element : goal.invariant-loop-element
invariant-loop-element l = string_bytes l.text ≡ string_bytes l.initial.text ++ elements_text (take l.element-index l.elements)
