use Rattle.std.proofs.Common.{◌≡◌, ◌++◌, take}
use Rattle.std.specs.List.{flat_map}
use Rattle.svg_plots.specs.CurvePanels.{up_tick}
use Rattle.svg_plots.proofs.curves.draw_up_ticks.Given as goal

abbrev pub invariant-loop-tick : goal.invariant-loop-tick
invariant-loop-tick l = l.picture ≡ l.initial.picture ++ flat_map (up_tick l.area) (take l.tick-index l.ticks)
