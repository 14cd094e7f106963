use Rattle.std.proofs.Common.{◌≡◌, take}
use Rattle.svg_plots.specs.Lists.{each}
use Rattle.report_pictures.specs.TracePictures.{key_of}
use Rattle.report_pictures.proofs.trace.keys_of.Given as goal

abbrev pub invariant-loop-place : goal.invariant-loop-place
invariant-loop-place l = l.keys.items ≡ each (key_of l.tag) (take l.place l.carriers)
