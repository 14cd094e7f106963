use Rattle.std.proofs.Common.{◌≡◌, ◌++◌, take}
use Rattle.std.specs.List.{flat_map}
use Rattle.svg_plots.specs.CurvePanels.{whisker_drawn}
use Rattle.svg_plots.proofs.curves.draw_whiskers.Given as goal

abbrev pub invariant-loop-whisker : goal.invariant-loop-whisker
invariant-loop-whisker l = l.picture ≡ l.initial.picture ++ flat_map (whisker_drawn l.area l.colour) (take l.whisker-index l.whiskers)
