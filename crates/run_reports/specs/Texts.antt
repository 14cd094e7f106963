-- What a report of latencies says.
use Rattle.std.specs.Prelude.{ℕ, ◌/◌, ◌%◌, nat_lt, if◌then◌else◌, List, [], ◌++◌, Option, None, Some, codes, decimal, length, slice_index, sum}
use Rattle.std.specs.List.{flat_map}
use Rattle.omega_net.specs.Wires.{below}
use Rattle.run_reports.specs.declared.latency.Latencies.{Latencies}
use Rattle.run_reports.specs.declared.report.Summary.{Summary}
use Rattle.run_reports.specs.Figures.{greatest, least, mean, percentile}

-- the figures of counted latencies
abbrev pub summary_of : Latencies → Summary
summary_of l = record {
  answered = sum l.histogram.items;
  unanswered = l.unanswered;
  mean = mean l.histogram.items;
  least = least l.histogram.items;
  median = percentile 50 l.histogram.items;
  percentile_90 = percentile 90 l.histogram.items;
  percentile_99 = percentile 99 l.histogram.items;
  greatest = greatest l.histogram.items;
}

-- a number of hundredths with two places behind its point
abbrev pub hundredths_text : ℕ → List ℕ
hundredths_text n = decimal (n / 100) ++ codes "." ++ decimal (n / 10 % 10) ++ decimal (n % 10)

-- a figure, or that there is none
abbrev pub mean_text : Option ℕ → List ℕ
mean_text None = codes "none"
mean_text (Some n) = hundredths_text n

abbrev pub cycles_text : Option ℕ → List ℕ
cycles_text None = codes "none"
cycles_text (Some d) = decimal d

-- a line for each figure: its name and it
abbrev pub counts_text : Summary → List ℕ
counts_text s = codes "answered " ++ decimal s.answered ++ codes "\nunanswered " ++ decimal s.unanswered ++ codes "\nmean " ++ mean_text s.mean ++ codes "\n"

abbrev pub lower_text : Summary → List ℕ
lower_text s = codes "least " ++ cycles_text s.least ++ codes "\np50 " ++ cycles_text s.median ++ codes "\np90 " ++ cycles_text s.percentile_90 ++ codes "\n"

abbrev pub upper_text : Summary → List ℕ
upper_text s = codes "p99 " ++ cycles_text s.percentile_99 ++ codes "\ngreatest " ++ cycles_text s.greatest ++ codes "\n"

-- the mean and the percentiles in a line
abbrev pub figures_text : Summary → List ℕ
figures_text s =
    codes "mean " ++ (mean_text s.mean ++ (codes ", p50 " ++ (cycles_text s.median ++ (codes ", p90 " ++ (cycles_text s.percentile_90
    ++ (codes ", p99 " ++ cycles_text s.percentile_99))))))

-- a row of the table, where some reference took so many cycles
abbrev pub row_text : ℕ → ℕ → List ℕ
row_text d number = if nat_lt 0 number then decimal d ++ codes "," ++ decimal number ++ codes "\n" else []

abbrev pub rows_text : List ℕ → List ℕ
rows_text h = flat_map (λ d. row_text d (slice_index h d)) (below (length h))

-- the report: its figures, and the table behind an empty line
abbrev pub report_text : Latencies → List ℕ
report_text l = counts_text (summary_of l) ++ lower_text (summary_of l) ++ upper_text (summary_of l) ++ codes "\nlatency,references\n" ++ rows_text l.histogram.items
