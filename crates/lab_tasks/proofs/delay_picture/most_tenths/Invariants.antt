use Rattle.std.proofs.Common.{◌≡◌, ◌≤◌, take}
use Rattle.lab_tasks.specs.DelayPictures.{most_tenths}
use Rattle.lab_tasks.proofs.delay_picture.most_tenths.Given as goal

abbrev pub invariant-loop-point : goal.invariant-loop-point
invariant-loop-point l = (l.most ≤ 1000000) × (l.most ≡ most_tenths (take l.point-index l.points))
