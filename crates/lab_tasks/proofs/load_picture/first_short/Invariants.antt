use Rattle.std.proofs.Common.{◌≡◌}
use Rattle.lab_tasks.specs.LoadPictures.{first_short}
use Rattle.lab_tasks.proofs.load_picture.first_short.Given as goal

abbrev pub invariant-loop-place : goal.invariant-loop-place
invariant-loop-place l = l.first ≡ first_short l.plan l.points l.curve l.place
