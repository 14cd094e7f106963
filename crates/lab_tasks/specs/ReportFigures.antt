-- The numbers of a report: their names, and what they are as text.
use Rattle.std.specs.Prelude.{ℕ, ◌-◌, ◌==◌, nat_lt, if◌then◌else◌, List, [], ◌++◌, Option, None, Some, codes, decimal}
use Rattle.run_reports.specs.declared.report.Summary.{Summary}
use Rattle.run_reports.specs.declared.spread.Spread.{Spread}
use Rattle.run_reports.specs.CompletionTexts.{field_text}
use Rattle.run_reports.specs.Texts.{cycles_text, hundredths_text, mean_text}

-- a mean, and nothing where there is none
abbrev pub mean_field : Option ℕ → List ℕ
mean_field None = []
mean_field (Some n) = hundredths_text n

-- ---- how long references took

abbrev pub latency_name : ℕ → List ℕ
latency_name i =
    if i == 0 then codes " answered" else (if i == 1 then codes " unanswered" else (if i == 2 then codes " mean" else (if i == 3 then codes " least"
    else (if i == 4 then codes " p50" else (if i == 5 then codes " p90" else (if i == 6 then codes " p99" else codes " greatest"))))))

-- the cycles behind the mean
abbrev pub cycles_at : Summary → ℕ → Option ℕ
cycles_at s i =
    if i == 3 then s.least else (if i == 4 then s.median else (if i == 5 then s.percentile_90 else (if i == 6 then s.percentile_99 else s.greatest)))

abbrev pub latency_figure : Summary → ℕ → List ℕ
latency_figure s i =
    if i == 0 then decimal s.answered else (if i == 1 then decimal s.unanswered else (if i == 2 then mean_field s.mean else field_text (cycles_at s i)))

-- in a line
abbrev pub latency_line : Summary → List ℕ
latency_line s =
    codes "mean " ++ (mean_text s.mean ++ (codes " p50 " ++ (cycles_text s.median ++ (codes " p90 " ++ (cycles_text s.percentile_90
    ++ (codes " p99 " ++ (cycles_text s.percentile_99 ++ (codes " unanswered " ++ decimal s.unanswered))))))))

-- ---- when processors were done: how many have a last reply, the earliest and the latest of them, the cycles between; and of the ends
-- of their scripts the same

abbrev pub spread_name : ℕ → List ℕ
spread_name i =
    if i == 0 then codes " processors" else (if i == 1 then codes " earliest" else (if i == 2 then codes " latest" else codes " spread"))

abbrev pub spread_figure : Spread → ℕ → List ℕ
spread_figure s i =
    if i == 0 then decimal s.number else (if i == 1 then field_text s.earliest else (if i == 2 then field_text s.latest else field_text s.between))

abbrev pub event_name : ℕ → List ℕ
event_name i = if nat_lt i 4 then codes " last_reply" else codes " script_end"

abbrev pub place_in_event : ℕ → ℕ
place_in_event i = if nat_lt i 4 then i else i - 4

abbrev pub done_name : ℕ → List ℕ
done_name i = event_name i ++ spread_name (place_in_event i)

abbrev pub done_figure : Spread → Spread → ℕ → List ℕ
done_figure replies ends i = spread_figure (if nat_lt i 4 then replies else ends) (place_in_event i)

-- in a line
abbrev pub spread_line : Spread → List ℕ
spread_line s =
    codes " of " ++ (decimal s.number ++ (codes " earliest " ++ (cycles_text s.earliest ++ (codes " latest " ++ (cycles_text s.latest
    ++ (codes " spread " ++ cycles_text s.between))))))

abbrev pub done_line : Spread → Spread → List ℕ
done_line replies ends = codes "last_reply" ++ (spread_line replies ++ (codes " script_end" ++ spread_line ends))

-- ---- which queues were full: how many, of how many queues, and the first and the last cycle at which one first was

abbrev pub full_name : ℕ → List ℕ
full_name i = if i == 0 then codes " full" else (if i == 1 then codes " queues" else (if i == 2 then codes " first" else codes " last"))

abbrev pub full_figure : Spread → ℕ → ℕ → List ℕ
full_figure fulls queues i =
    if i == 0 then decimal fulls.number else (if i == 1 then decimal queues else (if i == 2 then field_text fulls.earliest else field_text fulls.latest))

-- in a line
abbrev pub full_line : Spread → ℕ → List ℕ
full_line fulls queues =
    codes "full " ++ (decimal fulls.number ++ (codes " of " ++ (decimal queues ++ (codes " first " ++ (cycles_text fulls.earliest
    ++ (codes " last " ++ cycles_text fulls.latest))))))
