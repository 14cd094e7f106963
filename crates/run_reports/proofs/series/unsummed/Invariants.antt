use Rattle.std.proofs.Common.{◌≡◌, take, map}
use Rattle.run_reports.specs.Summing.{unsummed}
use Rattle.run_reports.proofs.series.unsummed.Given as goal

abbrev pub invariant-loop-gauge : goal.invariant-loop-gauge
invariant-loop-gauge l = l.all.items ≡ map unsummed (take l.gauge-index l.gauges)
