use Rattle.std.proofs.Common.{◌≡◌, ◌++◌, map}
use Rattle.omega_net.specs.Wires.{below}
use Rattle.run_reports.specs.declared.gauge.Gauge.TheVariants.{Busy}
use Rattle.run_reports.proofs.utilisation.add_stages.Given as goal

abbrev pub invariant-loop-stage : goal.invariant-loop-stage
invariant-loop-stage l = l.all.items ≡ l.initial.all.items ++ map (Busy l.net) (below l.stage)
