use Rattle.std.proofs.Common.{◌≡◌, take}
use Rattle.lab_tasks.specs.RatePictures.{greatest_drawn}
use Rattle.lab_tasks.proofs.rate_picture.greatest_of.Given as goal

abbrev pub invariant-loop-point : goal.invariant-loop-point
invariant-loop-point l = l.most ≡ greatest_drawn l.of (take l.point-index l.points)
