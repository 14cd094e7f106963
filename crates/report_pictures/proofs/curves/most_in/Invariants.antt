use Rattle.std.proofs.Common.{◌≡◌, ◌<◌, take}
use Rattle.report_pictures.specs.SeriesPictures.{most_in}
use Rattle.report_pictures.proofs.curves.most_in.Given as goal

abbrev pub invariant-loop-sum : goal.invariant-loop-sum
invariant-loop-sum l = (l.most < 100000000) × (l.most ≡ most_in (take l.sum-index l.sums))
