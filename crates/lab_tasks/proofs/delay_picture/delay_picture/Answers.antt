use Rattle.std.proofs.Common.{◌≡◌, ◌∙◌, ◌*◌, ◌++◌, ◌∷◌, [], ℕ, List, ap, refl, codes, string_bytes}
use Rattle.std.proofs.lemmas.Result.{IfOk-weaker}
use Rattle.svg_plots.specs.declared.curves.Curves.{Curves}
use Rattle.svg_plots.specs.CurvePanels.{curves_text}
use Rattle.svg_plots.specs.AxisTicks.{ticks_between}
use Rattle.lab_tasks.specs.DelayPictures.{delay_notes, greatest_share, share_place, share_ticks, IsDelayPicture}
use Rattle.lab_tasks.proofs.delay_picture.delay_picture.Goals as goal

pub returns : goal.returns
returns c =
    let plan = c.args.plan.now in
    let points = c.args.points.now in
    let panel = c.delay_panel-panel in
    let right : c.greatest_share-right.result ≡ greatest_share plan.hot.items = c.greatest_share-right.ensures ∙ ap (λ (shares : List ℕ). greatest_share shares) c.as_slice.ensures.value in
    let top = c.longest_of-top.ensures.longest in
    let last : List ℕ = codes "Queues of 4; a processor has at most 8 references unanswered." in
    let notes : c.as_slice-5.result.now ≡ delay_notes plan =
    c.as_slice-5.ensures.value ∙ c.in_ok-notes.ensures ∙ ap (λ (note : List ℕ). note ∷ last ∷ []) (c.as_str-2.ensures.value ∙ c.in_ok-note.ensures) in
    let drawn : Curves = record { title = c.as_str.result; panels = c.as_slice-4.result; legend_columns = 3 } in
    IfOk-weaker c.draw_curves.result _ (λ text. IsDelayPicture plan points (string_bytes text))
    (λ text is. (
      drawn,
      panel.result,
      c.as_str.ensures.value ∙ c.in_ok-title.ensures,
      c.as_slice-4.ensures.value ∙ c.in_ok-push.ensures.items ∙ ap (λ panels. panels ++ panel.result ∷ []) c.new-panels.ensures.items,
      refl,
      record {
        title = panel.ensures.title;
        across_title = panel.ensures.across_title;
        across = (panel.ensures.across.0, panel.ensures.across.1 ∙ ap (λ n. share_place n) right);
        across_ticks = panel.ensures.across_ticks ∙ c.as_slice-2.ensures.value ∙ c.in_ok-across.ensures ∙ ap (λ n. share_ticks n) right;
        up_title = panel.ensures.up_title;
        up = (panel.ensures.up.0, panel.ensures.up.1 ∙ ap (λ n. n * 10) top);
        up_ticks = panel.ensures.up_ticks ∙ c.as_slice-3.ensures.value ∙ c.in_ok-up.ensures ∙ ap (λ n. ticks_between 0 n) top;
        curves = panel.ensures.curves ∙ c.in_ok-curves.ensures;
      },
      is ∙ ap (λ (ns : List (List ℕ)). curves_text drawn ns) notes,
    ))
    c.draw_curves.ensures
