use Rattle.std.proofs.Common.{◌≡◌, take}
use Rattle.lab_tasks.specs.PlotPictures.{plot_curves}
use Rattle.lab_tasks.proofs.plot.plot_curves.Given as goal

abbrev pub invariant-loop-place : goal.invariant-loop-place
invariant-loop-place l = l.curves.items ≡ plot_curves l.names l.rows l.x l.fine (take l.place l.ys)
