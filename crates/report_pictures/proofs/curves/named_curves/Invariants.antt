use Rattle.std.proofs.Common.{◌≡◌, take}
use Rattle.svg_plots.specs.Lists.{each}
use Rattle.report_pictures.specs.SeriesPictures.{gauge_curves}
use Rattle.report_pictures.proofs.curves.named_curves.Given as goal

abbrev pub invariant-loop-place : goal.invariant-loop-place
invariant-loop-place l = l.curves.items ≡ each (λ place name. gauge_curves l.bins l.all place name.now) (take l.place l.names)
