use Rattle.std.proofs.Common.{◌≡◌, ◌++◌, ap, ◌∙◌}
use Rattle.svg_plots.specs.CurvePanels.{curves_elements, curves_text}
use Rattle.svg_plots.proofs.curves.draw_curves.Goals as goal

pub returns : goal.returns
unfolding curves_text
returns c =
    let drawn : c.draw_parts.new.picture ≡ curves_elements c.args.curves.now c.args.notes.now =
    c.in_ok-draw_parts.ensures ∙ ap (λ p. p ++ curves_elements c.args.curves.now c.args.notes.now) c.new-picture.ensures in
    rw (c.few.ensures.few, c.few-2.ensures.few, c.legend_rows-rows.ensures, c.named_in.ensures.named, c.columns_of-columns.ensures.columns, c.legend_of.ensures, drawn) at c.draw.ensures
