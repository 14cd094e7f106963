-- Of which gauges, and in which bins, `series` makes a table, and why it doesn't.
use Rattle.std.specs.Prelude.{◌≡◌, ◌≤◌, ◌<◌, ◌+◌, ◌⊎◌, ℕ, List, [], Option, None, Some, codes, unwrap_or}
use Rattle.std.specs.List.{AllZip}
use Rattle.project_book.specs.Project.{Project}
use Rattle.machine_cells.specs.Run.{run}
use Rattle.machine_cells.specs.Runs.{state_in}
use Rattle.run_reports.specs.declared.gauge.Gauge.{Gauge}
use Rattle.run_reports.specs.declared.series.Bins.{Bins}
use Rattle.run_reports.specs.GaugeTexts.{gauge_named}
use Rattle.run_reports.specs.Series.{series, series_text}
use Rattle.report_pictures.specs.SeriesPictures.{IsSeriesPicture}
use Rattle.lab_tasks.specs.declared.end.End.{End}
use Rattle.lab_tasks.specs.declared.series.SeriesWords.{SeriesWords}
use Rattle.lab_tasks.specs.Ends.{RefusesBackwards, RefusesForm}
use Rattle.lab_tasks.specs.Numbers.{IsTold, IsUntold}
use Rattle.lab_tasks.specs.Plans.{InTurn}
use Rattle.lab_tasks.specs.SweepTables.{RefusesFirst, SayAll, OrMemory}
use Rattle.lab_tasks.specs.Words.{text_of, texts_of}

-- a word is a gauge of a machine of 2^k processors; and why it is none
abbrev pub IsGauge : ℕ → List ℕ → Gauge → Type 0
IsGauge k word gauge = gauge_named k word ≡ Some gauge

abbrev pub gauge_wanted : List ℕ
gauge_wanted = codes "a gauge of this machine, as 'waiting', 'served m0', 'queue c0.0 f0', 'stage low 0' or 'busy comb 0'"

abbrev pub RefusesGauge : ℕ → List ℕ → End → Type 0
RefusesGauge k word end = (gauge_named k word ≡ None) × RefusesForm (codes "--of") word gauge_wanted end

abbrev pub AreNoGauges : ℕ → List (List ℕ) → End → Type 0
AreNoGauges k words end = RefusesFirst (IsGauge k) (λ word. RefusesGauge k word end) words

-- the cycles of a bin, and the first and the last cycle
abbrev pub IsSize : Project → SeriesWords → ℕ → Type 0
IsSize P words n = IsTold (text_of words.bin) 1 1 (P.horizon + 1) n

abbrev pub IsFirst : Project → SeriesWords → ℕ → Type 0
IsFirst P words n = IsTold (text_of words.from) 0 0 P.horizon n

abbrev pub IsLast : Project → SeriesWords → ℕ → Type 0
IsLast P words n = IsTold (text_of words.to) P.horizon 0 P.horizon n

-- the bins that the words name, of a window that doesn't end before it begins
pub record AreBins (P : Project) (words : SeriesWords) (b : Bins) : Type 0 where
  pub size : IsSize P words b.size
  pub from : IsFirst P words b.window.from
  pub to : IsLast P words b.window.to
  pub forward : b.window.from ≤ b.window.to

-- why they name none: the first word in this order that is refused, and last a window whose two words are told
abbrev pub AreNoBins : Project → SeriesWords → End → Type 0
AreNoBins P words end =
    InTurn (IsUntold (codes "--bin") (text_of words.bin) 1 (P.horizon + 1) end) (IsSize P words) (λ size.
    InTurn (IsUntold (codes "--from") (text_of words.from) 0 P.horizon end) (IsFirst P words) (λ from.
    InTurn (IsUntold (codes "--to") (text_of words.to) 0 P.horizon end) (IsLast P words) (λ to.
    (to < from) × RefusesBackwards (codes "--to") (unwrap_or (text_of words.to) []) end)))

-- a picture where a file is named for it, else nothing
abbrev pub IsWanted : Option (List ℕ) → (List ℕ → Type 0) → List ℕ → Type 0
IsWanted None IsPicture picture = picture ≡ []
IsWanted (Some out) IsPicture picture = IsPicture picture

-- the table of these gauges in these bins of the run, and the picture of their curves
abbrev pub AreSeriesTexts : SeriesWords → Project → List ℕ → List ℕ → Type 0
AreSeriesTexts words P table picture =
    (gauges : List Gauge) × (b : Bins) × AllZip (IsGauge P.k) (texts_of words.gauges.items) gauges × AreBins P words b
    × (table ≡ series_text P.k (state_in (run P)) gauges b)
    × IsWanted (text_of words.out)
    (IsSeriesPicture words.file.now (texts_of words.gauges.items) b (series P.k (state_in (run P)) gauges b)) picture

-- why there is none: a word that is no gauge, else the first of the other words that is refused
abbrev pub IsNoSeriesText : SeriesWords → Project → End → Type 0
IsNoSeriesText words P end =
    AreNoGauges P.k (texts_of words.gauges.items) end ⊎ (SayAll (IsGauge P.k) (texts_of words.gauges.items) × AreNoBins P words end)

abbrev pub IsNoSeries : SeriesWords → End → Project → Type 0
IsNoSeries words end P = OrMemory (IsNoSeriesText words P) end
