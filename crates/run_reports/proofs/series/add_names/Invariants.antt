use Rattle.std.proofs.Common.{◌≡◌, ◌++◌, codes, take, string_bytes}
use Rattle.std.specs.List.{flat_map}
use Rattle.run_reports.specs.GaugeTexts.{gauge_text}
use Rattle.run_reports.proofs.series.add_names.Given as goal

abbrev pub invariant-loop-gauge : goal.invariant-loop-gauge
invariant-loop-gauge l = string_bytes l.text ≡ string_bytes l.initial.text ++ flat_map (λ gauge. codes "," ++ gauge_text l.shape gauge) (take l.gauge-index l.gauges)
