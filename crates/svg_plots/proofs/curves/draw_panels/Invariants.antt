use Rattle.std.proofs.Common.{◌≡◌, ◌++◌, length, take}
use Rattle.svg_plots.specs.Lists.{each}
use Rattle.svg_plots.specs.CurvePanels.{area_of, panel_drawn}
use Rattle.svg_plots.proofs.curves.draw_panels.Given as goal

abbrev pub invariant-loop-place : goal.invariant-loop-place
invariant-loop-place l = l.picture ≡ l.initial.picture ++ each (λ place panel. panel_drawn (area_of panel place (length l.panels)) panel) (take l.place l.panels)
