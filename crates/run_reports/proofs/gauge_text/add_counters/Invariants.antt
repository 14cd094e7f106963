use Rattle.std.proofs.Common.{◌≡◌, ◌++◌, take}
use Rattle.std.specs.List.{flat_map}
use Rattle.run_reports.specs.GaugeTexts.{gauges_of}
use Rattle.run_reports.proofs.gauge_text.add_counters.Given as goal

abbrev pub invariant-loop-counter : goal.invariant-loop-counter
invariant-loop-counter l = l.all.items ≡ l.initial.all.items ++ flat_map (gauges_of l.shape) (take l.counter-index l.counters)
