use Rattle.std.proofs.Common.{◌≡◌, ◌<◌, take}
use Rattle.report_pictures.specs.LatencyPictures.{most_of}
use Rattle.report_pictures.proofs.histogram.most_of.Given as goal

abbrev pub invariant-loop-number : goal.invariant-loop-number
invariant-loop-number l = (l.most < 100000000) × (l.most ≡ most_of (take l.number-index l.numbers))
