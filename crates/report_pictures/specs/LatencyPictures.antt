-- WHAT THE HISTOGRAM OF LATENCIES SHOWS: a bar for each latency that some reference took, as high as so many took it.
use Rattle.std.specs.Prelude.{◌≡◌, ℕ, ◌+◌, ◌-◌, ◌*◌, nat_lt, min, max, if◌then◌else◌, List, [], ◌∷◌, ◌++◌, length, slice_index, sum, unwrap_or, Option, None, Some, codes, decimal}
use Rattle.std.specs.List.{flat_map, fold}
use Rattle.omega_net.specs.declared.component.Net.{Net}
use Rattle.omega_net.specs.declared.component.Net.TheVariants.{Low, Comb}
use Rattle.omega_net.specs.Wires.{below}
use Rattle.run_reports.specs.declared.condition.Condition.{Condition}
use Rattle.run_reports.specs.declared.condition.Heat.{Heat}
use Rattle.run_reports.specs.declared.condition.Heat.TheVariants.{Hot, Cold}
use Rattle.run_reports.specs.declared.condition.Window.{Window}
use Rattle.run_reports.specs.declared.latency.Latencies.{Latencies}
use Rattle.run_reports.specs.Figures.{greatest, least}
use Rattle.run_reports.specs.Texts.{figures_text, summary_of}
use Rattle.svg_plots.specs.AxisTicks.{ticks_between}
use Rattle.svg_plots.specs.Histograms.{histogram_text}
use Rattle.svg_plots.specs.declared.colour.Colour.TheVariants.{Shade}
use Rattle.svg_plots.specs.declared.curves.Panel.{Panel}
use Rattle.svg_plots.specs.declared.histogram.Histogram.{Histogram}
use Rattle.svg_plots.specs.declared.histogram.PanelBar.{PanelBar}

-- a number as far as an axis goes
abbrev pub capped : ℕ → ℕ
capped n = min n 99999999

-- A BAR of a latency that some reference took; a value is ten for each cycle, and for each reference
abbrev pub bar_of : ℕ → ℕ → List PanelBar
bar_of d number = if nat_lt 0 number then record { from = d * 10 - 4; to = d * 10 + 4; height = capped number * 10 } ∷ [] else []

abbrev pub bars_of : List ℕ → List PanelBar
bars_of h = flat_map (λ d. bar_of d (slice_index h d)) (below (length h))

-- the axis across goes from a cycle before the least latency to one behind the greatest, the axis up to one more than the most references
abbrev pub from_of : Latencies → ℕ
from_of l = min (unwrap_or (least l.histogram.items) 0) 65535 - 1

abbrev pub to_of : Latencies → ℕ
to_of l = min (unwrap_or (greatest l.histogram.items) 0) 65535 + 1

abbrev pub most_of : List ℕ → ℕ
most_of h = fold (λ most n. max most (capped n)) 1 h

pub record IsLatencyPanel (l : Latencies) (panel : Panel) : Type 0 where
  pub title : panel.title.now ≡ codes "Latencies"
  pub across_title : panel.across.title.now ≡ codes "cycles from issue to reply"
  pub across : (panel.across.from ≡ from_of l * 10) × (panel.across.to ≡ to_of l * 10)
  pub across_ticks : panel.across.ticks.now ≡ ticks_between (from_of l) (to_of l)
  pub up_title : panel.up.title.now ≡ codes "references"
  pub up : (panel.up.from ≡ 0) × (panel.up.to ≡ (most_of l.histogram.items + 1) * 10)
  pub up_ticks : panel.up.ticks.now ≡ ticks_between 0 (most_of l.histogram.items + 1)
  pub curves : panel.curves.items ≡ []

-- WHICH REFERENCES THEY ARE, in words
abbrev pub proc_words : Option ℕ → List ℕ
proc_words None = codes ""
proc_words (Some p) = codes " of processor " ++ decimal p

abbrev pub net_words : Option Net → List ℕ
net_words None = codes ""
net_words (Some Low) = codes " over the low network"
net_words (Some Comb) = codes " over the combining network"

abbrev pub page_words : Option ℕ → List ℕ
page_words None = codes ""
page_words (Some p) = codes " to page " ++ decimal p

abbrev pub address_words : Option ℕ → List ℕ
address_words None = codes ""
address_words (Some a) = codes " to word " ++ decimal a

abbrev pub hot_words : Option Heat → List ℕ
hot_words None = codes ""
hot_words (Some (Hot word)) = codes " to the hot word " ++ decimal word
hot_words (Some (Cold word)) = codes " to other words than " ++ decimal word

abbrev pub window_words : Option Window → List ℕ
window_words None = codes ""
window_words (Some w) = codes " issued in the cycles " ++ (decimal w.from ++ (codes " to " ++ decimal w.to))

abbrev pub caption : List ℕ → Condition → List ℕ
caption name c =
    name ++ (codes ": references" ++ (proc_words c.proc ++ (net_words c.net ++ (page_words c.page ++ (address_words c.address
    ++ (hot_words c.hot ++ (window_words c.window ++ codes ".")))))))

-- their figures
abbrev pub figures_note : Latencies → List ℕ
figures_note l =
    decimal (sum l.histogram.items) ++ (codes " answered, " ++ (decimal l.unanswered ++ (codes " unanswered. Cycles: "
    ++ (figures_text (summary_of l) ++ codes "."))))

abbrev pub last_note : List ℕ
last_note = codes "p90: the least latency within which 90 in a hundred of those that were answered are."

abbrev pub latency_notes : List ℕ → Condition → Latencies → List (List ℕ)
latency_notes name c l = figures_note l ∷ caption name c ∷ last_note ∷ []

-- the document
abbrev pub IsDrawnWith : Panel → List PanelBar → List (List ℕ) → List ℕ → Type 0
IsDrawnWith panel bars notes text =
    (h : Histogram) × (h.title.now ≡ codes "How long references took") × (h.panel.now ≡ panel) × (h.bars.now ≡ bars) × (h.colour ≡ Shade 12)
    × (text ≡ histogram_text h notes)

abbrev pub IsLatencyPicture : List ℕ → Condition → Latencies → List ℕ → Type 0
IsLatencyPicture name c l text =
    (panel : Panel) × IsLatencyPanel l panel × IsDrawnWith panel (bars_of l.histogram.items) (latency_notes name c l) text
