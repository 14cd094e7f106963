use Rattle.std.proofs.Common.{◌≡◌, ◌++◌, ap, ◌∙◌}
use Rattle.svg_plots.specs.Histograms.{histogram_elements, histogram_text}
use Rattle.svg_plots.proofs.histogram.draw_histogram.Goals as goal

pub returns : goal.returns
unfolding histogram_text
returns c =
    let drawn : c.draw_parts.new.picture ≡ histogram_elements c.args.histogram.now c.args.notes.now =
    c.in_ok-draw_parts.ensures ∙ ap (λ p. p ++ histogram_elements c.args.histogram.now c.args.notes.now) c.new-picture.ensures in
    rw (c.few.ensures.few, drawn) at c.draw.ensures
