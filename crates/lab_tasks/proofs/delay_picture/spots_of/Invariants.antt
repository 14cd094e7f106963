use Rattle.std.proofs.Common.{◌≡◌, take}
use Rattle.std.specs.List.{flat_map}
use Rattle.lab_tasks.specs.DelayPictures.{delay_spot}
use Rattle.lab_tasks.proofs.delay_picture.spots_of.Given as goal

abbrev pub invariant-loop-point : goal.invariant-loop-point
invariant-loop-point l = l.spots.items ≡ flat_map delay_spot (take l.point-index l.points)
