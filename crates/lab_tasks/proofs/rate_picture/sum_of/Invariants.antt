use Rattle.std.proofs.Common.{◌≡◌, ◌≤◌, ◌*◌, sum_by, take}
use Rattle.lab_tasks.specs.RatePictures.{drawn_of}
use Rattle.lab_tasks.proofs.rate_picture.sum_of.Given as goal

abbrev pub invariant-loop-point : goal.invariant-loop-point
invariant-loop-point l = (l.sum ≤ l.point-index * 1000000) × (l.sum ≡ sum_by (drawn_of l.of) (take l.point-index l.points))
