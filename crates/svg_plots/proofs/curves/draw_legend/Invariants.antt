use Rattle.std.proofs.Common.{◌≡◌, ◌≤◌, ◌++◌, drop}
use Rattle.svg_plots.specs.CurvePanels.{legend_from}
use Rattle.svg_plots.proofs.curves.draw_legend.Given as goal

abbrev pub invariant-loop-curve : goal.invariant-loop-curve
invariant-loop-curve l = (l.place ≤ 999) × (l.initial.picture ++ legend_from l.columns 0 l.curves ≡ l.picture ++ legend_from l.columns l.place (drop l.curve-index l.curves))
