use Rattle.std.proofs.Common.{◌∙◌, ◌++◌, ◌∷◌, [], List, ap, refl, string_bytes}
use Rattle.std.proofs.lemmas.Result.{IfOk-weaker}
use Rattle.svg_plots.specs.declared.curves.Curves.{Curves}
use Rattle.svg_plots.specs.declared.curves.Panel.{Panel}
use Rattle.lab_tasks.specs.RatePictures.{IsRatePicture}
use Rattle.lab_tasks.proofs.rate_picture.panels_drawn.Goals as goal

pub returns : goal.returns
returns c =
    let off = c.in_ok-off.off in
    let on = c.in_ok-on.on in
    let drawn : Curves = record { title = c.title_of.result; panels = c.as_slice.result; legend_columns = 4 } in
    IfOk-weaker c.draw_curves.result _ (λ text. IsRatePicture c.args.plan.now c.args.points.now (string_bytes text))
    (λ text is. (
      drawn,
      off,
      on,
      c.args.notes.now,
      c.title_of.ensures,
      c.as_slice.ensures.value ∙ c.in_ok-push-2.ensures.items
          ∙ ap (λ (panels : List Panel). panels ++ on ∷ []) (c.in_ok-push.ensures.items ∙ ap (λ (panels : List Panel). panels ++ off ∷ []) c.new-panels.ensures.items),
      refl,
      c.in_ok-off.ensures,
      c.in_ok-on.ensures,
      is,
    ))
    c.draw_curves.ensures
