use Rattle.std.proofs.Common.{◌≡◌}
use Rattle.std.specs.List.{flat_map}
use Rattle.omega_net.specs.Wires.{below}
use Rattle.lab_tasks.specs.PlotPictures.{plot_tick}
use Rattle.lab_tasks.proofs.plot.plot_ticks.Given as goal

abbrev pub invariant-loop-place : goal.invariant-loop-place
invariant-loop-place l = l.ticks.items ≡ flat_map (plot_tick l.unit l.top l.step) (below l.place)
