use Rattle.std.proofs.Common.{◌≡◌, ◌∙◌, ◌+◌, ◌*◌, ℕ, List, ap, ap₂, subst, string_bytes}
use Rattle.std.proofs.lemmas.Result.{IfOk-weaker}
use Rattle.svg_plots.specs.AxisTicks.{ticks_between}
use Rattle.svg_plots.specs.declared.histogram.PanelBar.{PanelBar}
use Rattle.report_pictures.specs.LatencyPictures.{bars_of, from_of, latency_notes, most_of, to_of, IsDrawnWith, IsLatencyPicture}
use Rattle.report_pictures.proofs.histogram.latency_picture.Goals as goal

pub returns : goal.returns
returns c =
    let l = c.args.latencies.now in
    let condition = c.args.condition.now in
    let name = c.args.name.now in
    let h : List ℕ = l.histogram.items in
    let panel = c.panel_of-panel in
    let numbers : c.as_slice-numbers.result.now ≡ h = c.as_slice-numbers.ensures.value in
    let from : c.from_of-from.result ≡ from_of l = c.from_of-from.ensures.from in
    let to : c.to_of-to.result ≡ to_of l = c.to_of-to.ensures.to in
    let most : c.most_of-most.result ≡ most_of h = c.most_of-most.ensures.most ∙ ap (λ (ns : List ℕ). most_of ns) numbers in
    let bars : c.as_slice-3.result.now ≡ bars_of h = c.as_slice-3.ensures.value ∙ c.in_ok-bars.ensures ∙ ap (λ (ns : List ℕ). bars_of ns) numbers in
    let notes : c.as_slice-4.result.now ≡ latency_notes name condition l = c.as_slice-4.ensures.value ∙ c.in_ok-notes.ensures in
    IfOk-weaker c.drawn.result _ (λ text. IsLatencyPicture name condition l (string_bytes text))
    (λ text is. (
      panel.result,
      record {
        title = panel.ensures.title;
        across_title = panel.ensures.across_title;
        across = (panel.ensures.across.0 ∙ ap (λ (n : ℕ). n * 10) from, panel.ensures.across.1 ∙ ap (λ (n : ℕ). n * 10) to);
        across_ticks = panel.ensures.across_ticks ∙ c.as_slice.ensures.value ∙ c.in_ok-across.ensures ∙ ap₂ (λ (a b : ℕ). ticks_between a b) from to;
        up_title = panel.ensures.up_title;
        up = (panel.ensures.up.0, panel.ensures.up.1 ∙ ap (λ (n : ℕ). (n + 1) * 10) most);
        up_ticks = panel.ensures.up_ticks ∙ c.as_slice-2.ensures.value ∙ c.in_ok-up.ensures ∙ ap (λ (n : ℕ). ticks_between 0 (n + 1)) most;
        curves = panel.ensures.curves;
      },
      subst (λ (bs : List PanelBar). IsDrawnWith panel.result bs (latency_notes name condition l) (string_bytes text)) bars
          (subst (λ (ns : List (List ℕ)). IsDrawnWith panel.result c.as_slice-3.result.now ns (string_bytes text)) notes is),
    ))
    c.drawn.ensures
