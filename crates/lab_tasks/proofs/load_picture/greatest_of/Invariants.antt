use Rattle.std.proofs.Common.{◌≡◌, take}
use Rattle.lab_tasks.specs.LoadPictures.{greatest_of}
use Rattle.lab_tasks.proofs.load_picture.greatest_of.Given as goal

abbrev pub invariant-loop-number : goal.invariant-loop-number
invariant-loop-number l = l.most ≡ greatest_of (take l.number-index l.numbers)
