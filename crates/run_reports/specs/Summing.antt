-- What is kept of gauges while a bin is stepped.
use Rattle.std.specs.Prelude.{ℕ, ◌+◌, Option}
use Rattle.machine_cells.specs.declared.state.MachineState.{MachineState}
use Rattle.run_reports.specs.declared.gauge.Gauge.{Gauge}
use Rattle.run_reports.specs.declared.series.GaugeSum.{GaugeSum}
use Rattle.run_reports.specs.Gauges.{gauge_at}
use Rattle.run_reports.specs.Series.{capped, sum_from}

-- a gauge of which nothing is summed yet
abbrev pub unsummed : Gauge → GaugeSum
unsummed g = record { gauge = g; sum = 0 }

-- with what these states show more
unfoldable pub with_states : ℕ → (ℕ → Option MachineState) → GaugeSum → GaugeSum
with_states k S s = record s { sum = capped (s.sum + gauge_at k s.gauge S) }

-- its sum over n cycles from one on
abbrev pub summed : ℕ → (ℕ → ℕ → Option MachineState) → ℕ → ℕ → Gauge → GaugeSum
summed k at first n g = record { gauge = g; sum = sum_from k at first n g }
