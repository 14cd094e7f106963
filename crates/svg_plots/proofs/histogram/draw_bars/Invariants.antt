use Rattle.std.proofs.Common.{◌≡◌, ◌++◌, take}
use Rattle.std.specs.List.{flat_map}
use Rattle.svg_plots.specs.Histograms.{bar_drawn}
use Rattle.svg_plots.proofs.histogram.draw_bars.Given as goal

abbrev pub invariant-loop-bar : goal.invariant-loop-bar
invariant-loop-bar l = l.picture ≡ l.initial.picture ++ flat_map (bar_drawn l.area l.colour) (take l.bar-index l.bars)
