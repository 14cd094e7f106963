-- How busy the stages and the modules were in the cycles of a window.
use Rattle.std.specs.Prelude.{ℕ, ◌+◌, ◌-◌, ◌*◌, ◌^◌, List, ◌++◌, map, Option, codes, decimal}
use Rattle.std.specs.List.{flat_map}
use Rattle.omega_net.specs.declared.component.Net.{Net}
use Rattle.omega_net.specs.declared.component.Net.TheVariants.{Low, Comb}
use Rattle.omega_net.specs.Numbers.{lines}
use Rattle.omega_net.specs.Wires.{below}
use Rattle.machine_cells.specs.declared.state.MachineState.{MachineState}
use Rattle.monitor_sums.specs.declared.counter.Counter.TheVariants.{Served}
use Rattle.run_reports.specs.declared.condition.Window.{Window}
use Rattle.run_reports.specs.declared.gauge.Gauge.{Gauge}
use Rattle.run_reports.specs.declared.gauge.Gauge.TheVariants.{Busy, CountedAt}
use Rattle.run_reports.specs.Figures.{hundredths}
use Rattle.run_reports.specs.GaugeTexts.{gauge_text}
use Rattle.run_reports.specs.Series.{sum_from}
use Rattle.run_reports.specs.Texts.{mean_text}

-- the requests that module m serves
abbrev pub served_by : ℕ → ℕ → Gauge
served_by k m = CountedAt Served (lines k + m)

-- what says how busy a machine of 2^k processors is: of each stage how many output queues hold a message, and what each module serves
abbrev pub busy_gauges : ℕ → List Gauge
busy_gauges k = map (Busy Low) (below k) ++ map (Busy Comb) (below k) ++ map (served_by k) (below (lines k))

-- the most that such a gauge shows in a cycle: a stage has as many output queues as there are processors, a module serves one request
abbrev pub most_shown : ℕ → Gauge → ℕ
most_shown k (Busy net stage) = lines k
most_shown k gauge = 1

-- how many a part is of a hundred of a whole, to the nearest hundredth
abbrev pub percent_text : ℕ → ℕ → List ℕ
percent_text part whole = mean_text (hundredths (100 * part) whole)

-- the row of a gauge with this sum over n cycles: its name, the sum, and how much that is of a hundred of the most that could be
abbrev pub busy_row : ℕ → ℕ → Gauge → ℕ → List ℕ
busy_row k n gauge sum =
    gauge_text k gauge ++ codes "," ++ decimal sum ++ codes "," ++ percent_text sum (n * most_shown k gauge) ++ codes "\n"

abbrev pub cycles_in : Window → ℕ
cycles_in w = w.to + 1 - w.from

abbrev pub busy_rows : ℕ → (ℕ → ℕ → Option MachineState) → Window → List ℕ
busy_rows k at w = flat_map (λ gauge. busy_row k (cycles_in w) gauge (sum_from k at w.from (cycles_in w) gauge)) (busy_gauges k)

-- the report: the cycles, and the table behind an empty line
abbrev pub busy_head : Window → List ℕ
busy_head w = codes "cycles " ++ decimal w.from ++ codes " to " ++ decimal w.to ++ codes "\n"

abbrev pub busy_text : ℕ → (ℕ → ℕ → Option MachineState) → Window → List ℕ
busy_text k at w = busy_head w ++ codes "\ngauge,sum,percent\n" ++ busy_rows k at w
