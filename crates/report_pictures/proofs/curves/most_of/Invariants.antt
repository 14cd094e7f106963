use Rattle.std.proofs.Common.{◌≡◌, ◌<◌, take}
use Rattle.report_pictures.specs.SeriesPictures.{most_of}
use Rattle.report_pictures.proofs.curves.most_of.Given as goal

abbrev pub invariant-loop-bin : goal.invariant-loop-bin
invariant-loop-bin l = (l.most < 100000000) × (l.most ≡ most_of (take l.bin-index l.all))
