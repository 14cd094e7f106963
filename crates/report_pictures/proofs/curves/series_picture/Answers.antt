use Rattle.std.proofs.Common.{◌≡◌, ◌∙◌, ◌+◌, ◌*◌, ◌++◌, ◌∷◌, [], ℕ, List, ap, map, refl, string_bytes}
use Rattle.std.proofs.lemmas.Result.{IfOk-weaker}
use Rattle.svg_plots.specs.AxisTicks.{ticks_between}
use Rattle.svg_plots.specs.CurvePanels.{curves_text}
use Rattle.svg_plots.specs.declared.curves.Curves.{Curves}
use Rattle.report_pictures.specs.SeriesPictures.{most_of, series_note, IsSeriesPicture}
use Rattle.report_pictures.proofs.curves.series_picture.Goals as goal

pub returns : goal.returns
returns c =
    let b = c.args.bins in
    let bins = c.args.all.now in
    let file = c.args.file.now in
    let names : List (List ℕ) = map (λ name. name.now) c.args.names.now in
    let panel = c.panel_of-panel in
    let most : c.most_of-most.result ≡ most_of bins = c.most_of-most.ensures.most in
    let notes : c.as_slice-4.result.now ≡ series_note file b ∷ [] =
    c.as_slice-4.ensures.value ∙ c.in_ok-notes.ensures ∙ ap (λ (note : List ℕ). note ∷ []) (c.as_str-2.ensures.value ∙ c.in_ok-note.ensures) in
    let drawn : Curves = record { title = c.heading.result; panels = c.as_slice-3.result; legend_columns = 4 } in
    IfOk-weaker c.draw_curves.result _ (λ text. IsSeriesPicture file names b bins (string_bytes text))
    (λ text is. (
      drawn,
      panel.result,
      c.heading.ensures,
      c.as_slice-3.ensures.value ∙ c.in_ok-push.ensures.items ∙ ap (λ panels. panels ++ panel.result ∷ []) c.new-panels.ensures.items,
      refl,
      record {
        title = panel.ensures.title ∙ c.as_str.ensures.value ∙ c.in_ok-title.ensures;
        across_title = panel.ensures.across_title;
        across = panel.ensures.across;
        across_ticks = panel.ensures.across_ticks ∙ c.as_slice.ensures.value ∙ c.in_ok-across.ensures;
        up_title = panel.ensures.up_title;
        up = (panel.ensures.up.0, panel.ensures.up.1 ∙ ap (λ (n : ℕ). (n + 1) * 10) most);
        up_ticks = panel.ensures.up_ticks ∙ c.as_slice-2.ensures.value ∙ c.in_ok-up.ensures ∙ ap (λ (n : ℕ). ticks_between 0 (n + 1)) most;
        curves = panel.ensures.curves ∙ c.in_ok-curves.ensures;
      },
      is ∙ ap (λ (ns : List (List ℕ)). curves_text drawn ns) notes,
    ))
    c.draw_curves.ensures
