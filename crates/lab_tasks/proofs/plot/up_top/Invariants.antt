use Rattle.std.proofs.Common.{◌≡◌, take}
use Rattle.std.specs.List.{fold}
use Rattle.lab_tasks.specs.PlotPictures.{up_most}
use Rattle.lab_tasks.proofs.plot.up_top.Given as goal

abbrev pub invariant-loop-curve : goal.invariant-loop-curve
invariant-loop-curve l = l.most ≡ fold up_most 1 (take l.curve-index l.curves)
