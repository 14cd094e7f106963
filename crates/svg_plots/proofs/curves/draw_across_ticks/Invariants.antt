use Rattle.std.proofs.Common.{◌≡◌, ◌++◌, take}
use Rattle.std.specs.List.{flat_map}
use Rattle.svg_plots.specs.CurvePanels.{across_tick}
use Rattle.svg_plots.proofs.curves.draw_across_ticks.Given as goal

abbrev pub invariant-loop-tick : goal.invariant-loop-tick
invariant-loop-tick l = l.picture ≡ l.initial.picture ++ flat_map (across_tick l.area) (take l.tick-index l.ticks)
