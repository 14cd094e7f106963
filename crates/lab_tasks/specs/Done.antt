-- What the program does for its words, and why it doesn't.
use Rattle.std.specs.Prelude.{◌≡◌, ◌⊎◌, ℕ, List, ◌∷◌, [], ◌++◌, Option, None, Some, Ok, Err, Bool, false, true, not, ◌&&◌, ◌||◌, bytes_eq, codes, is_some}
use Rattle.std.specs.List.{AllZip}
use Rattle.project_book.specs.Project.{Project}
use Rattle.project_file.specs.declared.fault.ProjectFault.{ProjectFault}
use Rattle.project_file.specs.Filed.{filed}
use Rattle.experiments.specs.declared.load.Load.{Load}
use Rattle.lab_tasks.specs.declared.end.End.{End}
use Rattle.lab_tasks.specs.declared.end.End.TheVariants as end
use Rattle.lab_tasks.specs.declared.outcome.Outcome.{Outcome}
use Rattle.lab_tasks.specs.declared.plan.MapPlan.{MapPlan}
use Rattle.lab_tasks.specs.declared.plan.CurvePlan.{CurvePlan}
use Rattle.lab_tasks.specs.declared.tables.RatePoint.{RatePoint}
use Rattle.lab_tasks.specs.declared.tables.DelayPoint.{DelayPoint}
use Rattle.lab_tasks.specs.declared.load_plan.LoadPlan.{LoadPlan}
use Rattle.lab_tasks.specs.declared.load_table.LoadPoint.{LoadPoint}
use Rattle.lab_tasks.specs.declared.words.Asked.{Asked}
use Rattle.lab_tasks.specs.declared.words.Asked.TheVariants.{Map, Compare, Order, Latency, Done as Completed, Trace, Full, Series, Busy, Rates, Delays, Load as Loaded, Sweep, Check, Convert, Page, Shell}
use Rattle.lab_tasks.specs.declared.words.MapWords.{MapWords}
use Rattle.lab_tasks.specs.declared.words.CurveWords.{CurveWords}
use Rattle.lab_tasks.specs.declared.words.DelayWords.{DelayWords}
use Rattle.lab_tasks.specs.declared.words.LoadWords.{LoadWords}
use Rattle.lab_tasks.specs.declared.series.SeriesWords.{SeriesWords}
use Rattle.lab_tasks.specs.declared.words.SweepWords.{SweepWords}
use Rattle.lab_tasks.specs.declared.convert.ConvertWords.{ConvertWords}
use Rattle.lab_tasks.specs.Words.{text_of, texts_of}
use Rattle.lab_tasks.specs.Busy.{IsBusyText, IsNotBusy}
use Rattle.lab_tasks.specs.Completions.{IsCompletionText}
use Rattle.lab_tasks.specs.Fullness.{IsFullText}
use Rattle.lab_tasks.specs.Gauged.{AreSeriesTexts, IsNoSeries}
use Rattle.lab_tasks.specs.Latencies.{IsLatencyDrawn, IsLatencyText, IsNoCondition}
use Rattle.lab_tasks.specs.Orders.{IsOrderText, IsNoOrder}
use Rattle.lab_tasks.specs.MachinePages.{IsNoPage, IsPageText}
use Rattle.lab_tasks.specs.DrawnMaps.{IsMapDrawn}
use Rattle.lab_tasks.specs.Either.{other_told, IsOther}
use Rattle.lab_tasks.specs.Elsewhere.{elsewhere}
use Rattle.lab_tasks.specs.DelayPictures.{IsDelayPicture}
use Rattle.lab_tasks.specs.RatePictures.{IsRatePicture}
use Rattle.lab_tasks.specs.Plans.{IsMap, IsNoMap, IsCurves, IsNoCurve}
use Rattle.lab_tasks.specs.Points.{rate_loads, delay_loads, IsRate, IsDelay}
use Rattle.lab_tasks.specs.Tables.{table_text, rate_row, delay_row}
use Rattle.lab_tasks.specs.Outcomes.{IsGiven, AreGiven}
use Rattle.lab_tasks.specs.Kept.{IsWithKept, IsWithOffers}
use Rattle.lab_tasks.specs.LoadPictures.{IsLoadPicture}
use Rattle.lab_tasks.specs.LoadPlans.{offers_of, IsLoadPlan, IsNoLoadPlan}
use Rattle.lab_tasks.specs.LoadTables.{load_header, load_row, IsLoadPoint}
use Rattle.lab_tasks.specs.SetUps.{IsSetUp, IsNoSetUp}
use Rattle.lab_tasks.specs.SweepTables.{IsTable, IsNoTable, OrStop}
use Rattle.lab_tasks.specs.EditSweeps.{IsEditTable, IsNoEditTable}
use Rattle.lab_tasks.specs.Summaries.{IsSummary}
use Rattle.lab_tasks.specs.ProjectTexts.{project_text}
use Rattle.lab_tasks.specs.Traces.{IsNoTag, IsTraceText}
use Rattle.lab_tasks.specs.Grids.{grid_text, names_of}
use Rattle.lab_tasks.specs.PlotPictures.{IsNoPlot, IsPlot}
use Rattle.lab_tasks.specs.Ends.{Refuses}

-- a text that is made of the project that a file's bytes are goes to a file, or to standard output
abbrev pub IsMadeOf : List ℕ → Option (List ℕ) → (Project → List ℕ → Type 0) → Outcome → Type 0
IsMadeOf bytes name IsText outcome =
    (P : Project) × (text : List ℕ) × (filed bytes ≡ Ok P) × IsText P text × IsGiven name text outcome

-- a picture of what the words ask for; and it is told where all references of the file are on the other network
abbrev pub IsMapMade : MapWords → List ℕ → Outcome → Type 0
IsMapMade words bytes outcome =
    (P : Project) × (plan : MapPlan) × (text : List ℕ) × (filed bytes ≡ Ok P) × IsMap P.k P.horizon words plan × IsMapDrawn P plan text
    × IsGiven (text_of words.out) text outcome × (outcome.elsewhere ≡ elsewhere P plan.net)

-- a table where it is wanted, and a picture
abbrev pub IsTableGiven : CurveWords → (List ℕ → Type 0) → List ℕ → Outcome → Type 0
IsTableGiven words IsPicture table outcome =
    (picture : List ℕ) × IsPicture picture × AreGiven (text_of words.csv) (text_of words.out) table picture outcome

-- and behind them the files of some loads
abbrev pub IsTableWithKept : CurveWords → List Load → (List ℕ → Type 0) → List ℕ → Outcome → Type 0
IsTableWithKept words loads IsPicture table outcome =
    (drawn : Outcome) × IsTableGiven words IsPicture table drawn × IsWithKept (text_of words.keep) loads drawn outcome

-- the table and the picture of a series
abbrev pub IsSeriesMade : SeriesWords → List ℕ → Outcome → Type 0
IsSeriesMade words bytes outcome =
    (P : Project) × (table : List ℕ) × (picture : List ℕ) × (filed bytes ≡ Ok P) × AreSeriesTexts words P table picture
    × AreGiven (text_of words.csv) (text_of words.out) table picture outcome

-- the first row of a table
abbrev pub rate_header : List ℕ
rate_header = codes "processors,combining,hot_percent,seed,first_cycle,cycles,answered,served,answered_per_cycle,served_per_cycle,bound" ++ 10 ∷ []

abbrev pub delay_header : List ℕ
delay_header = codes "network,processors,combining,hot_percent,replies,cycles_waited,mean_delay" ++ 10 ∷ []

-- the points of a plan's loads, measured and drawn
abbrev pub AreRates : CurveWords → Outcome → Type 0
AreRates words outcome =
    (plan : CurvePlan) × (points : List RatePoint) × IsCurves words plan × AllZip IsRate (rate_loads plan) points
    × IsTableWithKept words (rate_loads plan) (IsRatePicture plan points) (table_text rate_header rate_row points) outcome

abbrev pub AreDelays : CurveWords → Outcome → Type 0
AreDelays words outcome =
    (plan : CurvePlan) × (points : List DelayPoint) × IsCurves words plan × AllZip (IsDelay plan) (delay_loads plan) points
    × IsTableWithKept words (delay_loads plan) (IsDelayPicture plan points) (table_text delay_header delay_row points) outcome

-- what `delays` makes: without a file what is measured, with one the histogram of its latencies
abbrev pub IsDelaysOutcome : Option (List ℕ) → DelayWords → List ℕ → Outcome → Type 0
IsDelaysOutcome None words bytes outcome = AreDelays words.curves outcome
IsDelaysOutcome (Some file) words bytes outcome = IsMadeOf bytes (text_of words.curves.out) (IsLatencyDrawn words.latency) outcome

abbrev pub AreDelaysMade : DelayWords → List ℕ → Outcome → Type 0
AreDelaysMade words bytes outcome =
    (other_told (text_of words.file) words ≡ None) × IsDelaysOutcome (text_of words.file) words bytes outcome

-- the points of a plan's offered loads, measured and drawn, and behind them the files of these loads
abbrev pub AreLoads : LoadWords → Outcome → Type 0
AreLoads words outcome =
    (plan : LoadPlan) × (points : List LoadPoint) × (drawn : Outcome) × IsLoadPlan words plan × AllZip IsLoadPoint (offers_of plan) points
    × IsTableGiven words.curves (IsLoadPicture plan points) (table_text load_header load_row points) drawn
    × IsWithOffers (text_of words.curves.keep) (offers_of plan) drawn outcome

-- each number of an answer has a column of its own where that is asked for, and in a picture
abbrev pub has_numbers : SweepWords → Bool
has_numbers words = words.numbers || is_some words.plot

-- the table that the words of a sweep ask for of the project that they set up: of depths alone, or of depths and edits
abbrev pub IsSweptTable : SweepWords → List (List ℕ) → Project → List (List (List ℕ)) → Type 0
IsSweptTable words [] Q table = IsTable Q (has_numbers words) (texts_of words.depths.items) (texts_of words.asks.items) table
IsSweptTable words edits Q table = IsEditTable Q (has_numbers words) words.zip (texts_of words.depths.items) edits (texts_of words.asks.items) table

abbrev pub IsSweepTable : SweepWords → Project → List (List (List ℕ)) → Type 0
IsSweepTable words P table = (Q : Project) × IsSetUp P (texts_of words.setups.items) Q × IsSweptTable words (texts_of words.edits.items) Q table

-- its picture, where one is asked for
abbrev pub IsPlotted : SweepWords → Option (List ℕ) → List (List (List ℕ)) → List ℕ → Type 0
IsPlotted words None table picture = picture ≡ []
IsPlotted words (Some plot) table picture = IsPlot words.file.now table (text_of words.x) (texts_of words.ys.items) picture

-- the table and the picture go where they are wanted, the table to standard output where neither is
abbrev pub IsSweepOf : SweepWords → Project → Outcome → Type 0
IsSweepOf words P outcome =
    (table : List (List (List ℕ))) × (picture : List ℕ) × IsSweepTable words P table × IsPlotted words (text_of words.plot) table picture
    × AreGiven (text_of words.csv) (text_of words.plot) (grid_text table) picture outcome

abbrev pub IsSweepMade : SweepWords → List ℕ → Outcome → Type 0
IsSweepMade words bytes outcome = (P : Project) × (filed bytes ≡ Ok P) × IsSweepOf words P outcome

-- why there is none: a word that sets nothing up, else the reason against a table of the project that is set up
abbrev pub IsNoSwept : SweepWords → List (List ℕ) → Project → End → Type 0
IsNoSwept words [] Q e = IsNoTable Q (texts_of words.depths.items) (texts_of words.asks.items) e
IsNoSwept words edits Q e = IsNoEditTable Q words.zip (texts_of words.depths.items) edits (texts_of words.asks.items) e

abbrev pub IsNoSweepText : SweepWords → Project → End → Type 0
IsNoSweepText words P e =
    IsNoSetUp P (texts_of words.setups.items) e
    ⊎ ((Q : Project) × IsSetUp P (texts_of words.setups.items) Q × IsNoSwept words (texts_of words.edits.items) Q e)

abbrev pub IsNoSweepTable : SweepWords → End → Project → Type 0
IsNoSweepTable words e P = OrStop (IsNoSweepText words P) e

-- else, behind the table, the reason against its picture
abbrev pub IsNoPlotted : SweepWords → Option (List ℕ) → List (List (List ℕ)) → End → Type 0
IsNoPlotted words None table e = ⊥
IsNoPlotted words (Some plot) table e = IsNoPlot (names_of table) plot (text_of words.x) (texts_of words.ys.items) e

abbrev pub IsNoSweepOrPlot : SweepWords → Project → End → Type 0
IsNoSweepOrPlot words P e =
    IsNoSweepText words P e ⊎ ((table : List (List (List ℕ))) × IsSweepTable words P table × IsNoPlotted words (text_of words.plot) table e)

abbrev pub IsNoSweep : SweepWords → End → Project → Type 0
IsNoSweep words e P = OrStop (IsNoSweepOrPlot words P) e

-- a name is that of the file that is read, which may not be written over
abbrev pub names_source : Option (List ℕ) → List ℕ → Bool
names_source None file = false
names_source (Some out) file = bytes_eq out file

abbrev pub is_over : ConvertWords → Bool
is_over words = not words.force && names_source (text_of words.out) words.file.now

-- a converted file: its text is this one, which is read as the project
abbrev pub IsConverted : Project → List ℕ → Type 0
IsConverted P text = (text ≡ project_text P) × (filed text ≡ Ok P)

-- why a file isn't to be written over itself
abbrev pub IsOver : ConvertWords → End → Type 0
IsOver words e = (is_over words ≡ true) × Refuses (codes "--out") words.file.now 2 (codes "is the file that is read; --force writes over it") e

-- what is done for what is asked, with the bytes of its file; a session of the shell has no outcome, and two files are compared by
-- `IsComparison`
abbrev pub IsDone : Asked → List ℕ → Outcome → Type 0
IsDone (Map words) bytes outcome = IsMapMade words bytes outcome
IsDone (Order words) bytes outcome = IsMadeOf bytes (text_of words.out) (IsOrderText words) outcome
IsDone (Latency words) bytes outcome = IsMadeOf bytes None (IsLatencyText words) outcome
IsDone (Completed file) bytes outcome = IsMadeOf bytes None IsCompletionText outcome
IsDone (Trace words) bytes outcome = IsMadeOf bytes (text_of words.out) (IsTraceText words) outcome
IsDone (Full file) bytes outcome = IsMadeOf bytes None IsFullText outcome
IsDone (Series words) bytes outcome = IsSeriesMade words bytes outcome
IsDone (Busy words) bytes outcome = IsMadeOf bytes None (IsBusyText words) outcome
IsDone (Rates words) bytes outcome = AreRates words outcome
IsDone (Delays words) bytes outcome = AreDelaysMade words bytes outcome
IsDone (Loaded words) bytes outcome = AreLoads words outcome
IsDone (Sweep words) bytes outcome = IsSweepMade words bytes outcome
IsDone (Check file) bytes outcome = IsMadeOf bytes None IsSummary outcome
IsDone (Convert words) bytes outcome = (is_over words ≡ false) × IsMadeOf bytes (text_of words.out) IsConverted outcome
IsDone (Page words) bytes outcome = IsMadeOf bytes (text_of words.out) (IsPageText words) outcome
IsDone (Compare words) bytes outcome = ⊥
IsDone (Shell words) bytes outcome = ⊥

-- the bytes are refused as a project, by their fault
abbrev pub IsNoProject : List ℕ → End → Type 0
IsNoProject bytes e = (f : ProjectFault) × (e ≡ end.Project f) × (filed bytes ≡ Err f)

-- no outcome: there was no memory, the bytes are no project, or of the project that they are nothing is made for this reason
abbrev pub IsNotMade : List ℕ → (Project → Type 0) → End → Type 0
IsNotMade bytes Refused e = (e ≡ end.Memory) ⊎ (IsNoProject bytes e ⊎ ((P : Project) × (filed bytes ≡ Ok P) × Refused P))

-- why `delays` makes nothing: a word of the other form of it, else the reason against what is measured, or against the file
abbrev pub IsNoDelaysOutcome : Option (List ℕ) → DelayWords → List ℕ → End → Type 0
IsNoDelaysOutcome None words bytes e = (e ≡ end.Memory) ⊎ IsNoCurve words.curves e
IsNoDelaysOutcome (Some file) words bytes e = IsNotMade bytes (λ P. IsNoCondition P words.latency e) e

abbrev pub AreDelaysNotMade : DelayWords → List ℕ → End → Type 0
AreDelaysNotMade words bytes e =
    IsOther words e ⊎ ((other_told (text_of words.file) words ≡ None) × IsNoDelaysOutcome (text_of words.file) words bytes e)

-- why what is asked isn't done
abbrev pub IsNotDone : Asked → List ℕ → End → Type 0
IsNotDone (Map words) bytes e = IsNotMade bytes (λ P. IsNoMap P.k P.horizon words e) e
IsNotDone (Order words) bytes e = IsNotMade bytes (λ P. IsNoOrder P words e) e
IsNotDone (Latency words) bytes e = IsNotMade bytes (λ P. IsNoCondition P words e) e
IsNotDone (Completed file) bytes e = IsNotMade bytes (λ P. ⊥) e
IsNotDone (Trace words) bytes e = IsNotMade bytes (λ P. IsNoTag P words e) e
IsNotDone (Full file) bytes e = IsNotMade bytes (λ P. ⊥) e
IsNotDone (Series words) bytes e = IsNotMade bytes (IsNoSeries words e) e
IsNotDone (Busy words) bytes e = IsNotMade bytes (λ P. IsNotBusy P words e) e
IsNotDone (Rates words) bytes e = (e ≡ end.Memory) ⊎ IsNoCurve words e
IsNotDone (Delays words) bytes e = AreDelaysNotMade words bytes e
IsNotDone (Loaded words) bytes e = (e ≡ end.Memory) ⊎ IsNoLoadPlan words e
IsNotDone (Sweep words) bytes e = IsNotMade bytes (IsNoSweep words e) e
IsNotDone (Check file) bytes e = IsNotMade bytes (λ P. ⊥) e
IsNotDone (Convert words) bytes e = IsOver words e ⊎ ((is_over words ≡ false) × IsNotMade bytes (λ P. ⊥) e)
IsNotDone (Page words) bytes e = IsNotMade bytes (λ P. IsNoPage P words e) e
IsNotDone (Compare words) bytes e = e ≡ end.Words
IsNotDone (Shell words) bytes e = e ≡ end.Words
