use Rattle.std.proofs.Common.{◌≡◌, ◌≤◌, length, take}
use Rattle.std.specs.List.{flat_map}
use Rattle.lab_tasks.specs.LoadPictures.{values_of}
use Rattle.lab_tasks.proofs.load_picture.values_of.Given as goal

abbrev pub invariant-loop-point : goal.invariant-loop-point
invariant-loop-point l = (length l.values.items ≤ l.point-index) × (l.values.items ≡ flat_map (values_of l.shown) (take l.point-index l.points))
