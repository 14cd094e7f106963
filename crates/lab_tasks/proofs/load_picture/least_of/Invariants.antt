use Rattle.std.proofs.Common.{◌≡◌, take}
use Rattle.lab_tasks.specs.LoadPictures.{least_of}
use Rattle.lab_tasks.proofs.load_picture.least_of.Given as goal

abbrev pub invariant-loop-number : goal.invariant-loop-number
invariant-loop-number l = l.least ≡ least_of (take l.number-index l.numbers)
