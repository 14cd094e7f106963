use Rattle.std.proofs.Common.{◌≡◌, ◌++◌, map}
use Rattle.omega_net.specs.Wires.{below}
use Rattle.run_reports.specs.declared.gauge.Gauge.TheVariants.{CountedAt}
use Rattle.run_reports.proofs.gauge_text.add_places.Given as goal

abbrev pub invariant-loop-place : goal.invariant-loop-place
invariant-loop-place l = l.all.items ≡ l.initial.all.items ++ map (CountedAt l.counter) (below l.place)
