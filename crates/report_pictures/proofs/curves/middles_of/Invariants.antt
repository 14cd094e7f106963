use Rattle.std.proofs.Common.{◌≡◌, length, take}
use Rattle.svg_plots.specs.Lists.{each}
use Rattle.report_pictures.specs.SeriesPictures.{middle_at}
use Rattle.report_pictures.proofs.curves.middles_of.Given as goal

abbrev pub invariant-loop-number : goal.invariant-loop-number
invariant-loop-number l = l.middles.items ≡ each (middle_at l.bins (length l.all) l.place) (take l.number l.all)
