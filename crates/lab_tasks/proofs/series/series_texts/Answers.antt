use Rattle.std.proofs.Common.{◌≡◌, ◌∙◌, ◌++◌, ℕ, List, ap, inl, inr, string_bytes, subst}
use Rattle.std.specs.List.{flat_map, AllZip}
use Rattle.machine_cells.specs.Run.{run}
use Rattle.machine_cells.specs.Runs.{state_in}
use Rattle.run_reports.specs.declared.gauge.Gauge.{Gauge}
use Rattle.run_reports.specs.Series.{bin_row, name_row, series}
use Rattle.report_pictures.specs.SeriesPictures.{IsSeriesPicture}
use Rattle.lab_tasks.specs.Gauged.{AreNoGauges, IsGauge, IsNoSeriesText, IsWanted}
use Rattle.lab_tasks.specs.Words.{text_of, texts_of}
use Rattle.lab_tasks.proofs.WordByWord.{or-memory, or-memory-by}
use Rattle.lab_tasks.proofs.series.series_texts.Goals as goal

pub returns-in-Err-clause-refused : goal.returns-in-Err-clause-refused
returns-in-Err-clause-refused c =
    let P = c.args.project.now in
    let W = c.args.words.now in
    or-memory-by (AreNoGauges P.k (texts_of W.gauges.items)) (IsNoSeriesText W P) c.in-Err.end (λ h. inl h) (rw (c.as_slice.ensures.value, c.shape.ensures) at c.in-Err.ensures.refused)

pub returns-in-Err-bins_at-clause-refused : goal.returns-in-Err-bins_at-clause-refused
returns-in-Err-bins_at-clause-refused c =
    let P = c.args.project.now in
    let W = c.args.words.now in
    let named : AllZip (IsGauge P.k) (texts_of W.gauges.items) c.in-Ok.gauges.items = rw (c.as_slice.ensures.value, c.shape.ensures) at c.in-Ok.ensures.named in
    or-memory (IsNoSeriesText W P) c.in-Err-bins_at.end (inr ((c.in-Ok.gauges.items, named), c.in-Err-bins_at.ensures.refused))

pub returns-in-Ok-texts_in-clause-done : goal.returns-in-Ok-texts_in-clause-done
returns-in-Ok-texts_in-clause-done c =
    let P = c.args.project.now in
    let W = c.args.words.now in
    let at = state_in (run P) in
    let gs = c.in-Ok.gauges.items in
    let b = c.in-Ok-bins_at.bins in
    let named : AllZip (IsGauge P.k) (texts_of W.gauges.items) gs = rw (c.as_slice.ensures.value, c.shape.ensures) at c.in-Ok.ensures.named in
    let all : c.as_slice-4.result.now ≡ series P.k at gs b =
    c.as_slice-4.ensures.value ∙ c.in-Ok-series_sums.ensures ∙ ap (λ (g : List Gauge). series P.k at g b) c.as_slice-2.ensures.value in
    let rows : List (ℕ × List ℕ) = c.as_slice-4.result.now in (
      gs,
      b,
      named,
      c.in-Ok-bins_at.ensures.told,
      c.in-Ok-texts_in.ensures.table ∙ ap (λ (k : ℕ). name_row k c.as_slice-3.result.now ++ flat_map bin_row rows) c.shape-2.ensures
          ∙ ap (λ (g : List Gauge). name_row P.k g ++ flat_map bin_row rows) c.as_slice-3.ensures.value
          ∙ ap (λ (bins : List (ℕ × List ℕ)). name_row P.k gs ++ flat_map bin_row bins) all,
      subst (λ (bins : List (ℕ × List ℕ)). IsWanted (text_of W.out) (IsSeriesPicture W.file.now (texts_of W.gauges.items) b bins) (string_bytes c.in-Ok-texts_in.texts.picture))
          all c.in-Ok-texts_in.ensures.picture,
    )
