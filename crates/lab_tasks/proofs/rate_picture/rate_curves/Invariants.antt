use Rattle.std.proofs.Common.{◌≡◌, take}
use Rattle.svg_plots.specs.Lists.{each}
use Rattle.lab_tasks.specs.RatePictures.{share_curves}
use Rattle.lab_tasks.proofs.rate_picture.rate_curves.Given as goal

abbrev pub invariant-loop-place : goal.invariant-loop-place
invariant-loop-place l = l.curves.items ≡ each (share_curves l.plan l.points l.combine) (take l.place l.plan.hot.items)
