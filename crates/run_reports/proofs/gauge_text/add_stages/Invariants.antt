use Rattle.std.proofs.Common.{◌≡◌, ◌++◌}
use Rattle.std.specs.List.{flat_map}
use Rattle.omega_net.specs.Wires.{below}
use Rattle.run_reports.specs.GaugeTexts.{stage_gauges}
use Rattle.run_reports.proofs.gauge_text.add_stages.Given as goal

abbrev pub invariant-loop-stage : goal.invariant-loop-stage
invariant-loop-stage l = l.all.items ≡ l.initial.all.items ++ flat_map (stage_gauges l.net) (below l.stage)
