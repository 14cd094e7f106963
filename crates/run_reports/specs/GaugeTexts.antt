-- The names of gauges.
use Rattle.std.specs.Prelude.{ℕ, List, [], ◌∷◌, ◌++◌, map, Option, bytes_eq, codes, decimal}
use Rattle.std.specs.List.{find, flat_map}
use Rattle.omega_net.specs.declared.component.Net.{Net}
use Rattle.omega_net.specs.declared.component.Net.TheVariants.{Low, Comb}
use Rattle.omega_net.specs.Numbers.{component_of, components}
use Rattle.omega_net.specs.Wires.{below}
use Rattle.monitor_sums.specs.declared.counter.Counter.{Counter}
use Rattle.monitor_sums.specs.Counts.{counter_name, counters}
use Rattle.run_reports.specs.declared.gauge.Gauge.{Gauge}
use Rattle.run_reports.specs.declared.gauge.Gauge.TheVariants.{Counted, CountedAt, Length, Held, Busy}
use Rattle.run_reports.specs.FullQueues.{queues}
use Rattle.run_reports.specs.FullTexts.{part_text}
use Rattle.run_reports.specs.TraceTexts.{place_text}

-- a gauge: `COUNTER`, `COUNTER PLACE`, `queue PLACE PART`, `stage NET S` or `busy NET S`
abbrev pub gauge_text : ℕ → Gauge → List ℕ
gauge_text k (Counted counter) = counter_name counter
gauge_text k (CountedAt counter place) = counter_name counter ++ codes " " ++ place_text (component_of k place)
gauge_text k (Length q) = codes "queue " ++ place_text (component_of k q.place) ++ codes " " ++ part_text q.part
gauge_text k (Held Low stage) = codes "stage low " ++ decimal stage
gauge_text k (Held Comb stage) = codes "stage comb " ++ decimal stage
gauge_text k (Busy Low stage) = codes "busy low " ++ decimal stage
gauge_text k (Busy Comb stage) = codes "busy comb " ++ decimal stage

-- what a counter counts of all components and of each one, and the gauges of the stages of a network
abbrev pub gauges_of : ℕ → Counter → List Gauge
gauges_of k counter = Counted counter ∷ map (CountedAt counter) (below (components k))

abbrev pub stage_gauges : Net → ℕ → List Gauge
stage_gauges net stage = Held net stage ∷ Busy net stage ∷ []

-- all gauges of a machine of 2^k processors
abbrev pub gauges : ℕ → List Gauge
gauges k = flat_map (gauges_of k) counters ++ map Length (queues k) ++ flat_map (stage_gauges Low) (below k) ++ flat_map (stage_gauges Comb) (below k)

-- the gauge of the machine whose text a word is, if there is one
abbrev pub gauge_named : ℕ → List ℕ → Option Gauge
gauge_named k word = find (λ gauge. bytes_eq (gauge_text k gauge) word) (gauges k)
