use Rattle.std.proofs.Common.{◌≡◌, ◌++◌, take, string_bytes}
use Rattle.svg_plots.specs.Texts.{spots_text}
use Rattle.svg_plots.proofs.picture.write_spots.Given as goal

abbrev pub invariant-loop-spot : goal.invariant-loop-spot
invariant-loop-spot l = string_bytes l.text ≡ string_bytes l.initial.text ++ spots_text (take l.spot-index l.spots)
