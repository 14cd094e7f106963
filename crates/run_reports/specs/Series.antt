-- What gauges show in the cycles of a window, by bins.
use Rattle.std.specs.Prelude.{ℕ, ◌+◌, ◌-◌, ◌*◌, ◌/◌, ◌^◌, min, List, ◌++◌, map, Option, codes, decimal}
use Rattle.std.specs.List.{flat_map}
use Rattle.omega_net.specs.Wires.{below}
use Rattle.machine_cells.specs.declared.state.MachineState.{MachineState}
use Rattle.monitor_sums.specs.Adding.{sum_below}
use Rattle.run_reports.specs.declared.gauge.Gauge.{Gauge}
use Rattle.run_reports.specs.declared.series.Bins.{Bins}
use Rattle.run_reports.specs.Gauges.{gauge_at}
use Rattle.run_reports.specs.GaugeTexts.{gauge_text}

-- how many bins there are, where each begins, and how many cycles it has: fewer where the window ends in it
abbrev pub bins_in : Bins → ℕ
bins_in b = (b.window.to - b.window.from) / b.size + 1

abbrev pub start_of : Bins → ℕ → ℕ
start_of b i = b.window.from + i * b.size

abbrev pub cycles_of : Bins → ℕ → ℕ
cycles_of b i = min b.size (b.window.to + 1 - start_of b i)

-- the sum of a gauge over n cycles from one on: at most the greatest number of 64 bits, which no sum of a run comes to
abbrev pub capped : ℕ → ℕ
capped n = min n (2 ^ 64 - 1)

abbrev pub sum_from : ℕ → (ℕ → ℕ → Option MachineState) → ℕ → ℕ → Gauge → ℕ
sum_from k at first n gauge = capped (sum_below (λ j. gauge_at k gauge (at (first + j))) n)

-- the bins: the first cycle of each, and for each gauge the sum over its cycles
abbrev pub bin_of : ℕ → (ℕ → ℕ → Option MachineState) → List Gauge → Bins → ℕ → ℕ × List ℕ
bin_of k at gauges b i = (start_of b i, map (sum_from k at (start_of b i) (cycles_of b i)) gauges)

abbrev pub series : ℕ → (ℕ → ℕ → Option MachineState) → List Gauge → Bins → List (ℕ × List ℕ)
series k at gauges b = map (bin_of k at gauges b) (below (bins_in b))

-- the table: a row of the gauges' names, and one for each bin
abbrev pub name_row : ℕ → List Gauge → List ℕ
name_row k gauges = codes "cycle" ++ flat_map (λ gauge. codes "," ++ gauge_text k gauge) gauges ++ codes "\n"

abbrev pub bin_row : ℕ × List ℕ → List ℕ
bin_row bin = decimal bin.0 ++ flat_map (λ sum. codes "," ++ decimal sum) bin.1 ++ codes "\n"

abbrev pub series_text : ℕ → (ℕ → ℕ → Option MachineState) → List Gauge → Bins → List ℕ
series_text k at gauges b = name_row k gauges ++ flat_map bin_row (series k at gauges b)
