use Rattle.std.proofs.Common.{◌≡◌, ◌≤◌, take}
use Rattle.svg_plots.specs.CurvePanels.{named_in}
use Rattle.svg_plots.proofs.curves.named_in.Given as goal

abbrev pub invariant-loop-curve : goal.invariant-loop-curve
invariant-loop-curve l = (l.place ≤ 999) × (l.place ≡ named_in (take l.curve-index l.curves))
