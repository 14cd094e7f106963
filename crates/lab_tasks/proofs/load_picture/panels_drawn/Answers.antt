use Rattle.std.proofs.Common.{◌∙◌, ◌++◌, ◌∷◌, [], List, ap, refl, string_bytes}
use Rattle.std.proofs.lemmas.Result.{IfOk-weaker}
use Rattle.svg_plots.specs.declared.curves.Curves.{Curves}
use Rattle.svg_plots.specs.declared.curves.Panel.{Panel}
use Rattle.lab_tasks.specs.LoadPictures.{IsLoadPicture}
use Rattle.lab_tasks.proofs.load_picture.panels_drawn.Goals as goal

pub returns : goal.returns
returns c =
    let left = c.in_ok-left.left in
    let right = c.in_ok-right.right in
    let drawn : Curves = record { title = c.args.title; panels = c.as_slice.result; legend_columns = 1 } in
    IfOk-weaker c.draw_curves.result _ (λ text. IsLoadPicture c.args.plan.now c.args.points.now (string_bytes text))
    (λ text is. (
      drawn,
      left,
      right,
      c.args.notes.now,
      c.requires.title,
      c.as_slice.ensures.value ∙ c.in_ok-push-2.ensures.items
          ∙ ap (λ (panels : List Panel). panels ++ right ∷ []) (c.in_ok-push.ensures.items ∙ ap (λ (panels : List Panel). panels ++ left ∷ []) c.new-panels.ensures.items),
      refl,
      c.in_ok-left.ensures,
      c.in_ok-right.ensures,
      is,
    ))
    c.draw_curves.ensures
