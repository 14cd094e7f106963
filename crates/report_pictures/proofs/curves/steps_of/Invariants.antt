use Rattle.std.proofs.Common.{◌≡◌, take}
use Rattle.std.specs.List.{flat_map}
use Rattle.report_pictures.specs.SeriesPictures.{step_of}
use Rattle.report_pictures.proofs.curves.steps_of.Given as goal

abbrev pub invariant-loop-bin : goal.invariant-loop-bin
invariant-loop-bin l = l.points.items ≡ flat_map (step_of l.bins l.place) (take l.bin-index l.all)
