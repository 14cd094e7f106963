use Rattle.std.proofs.Common.{◌≡◌, refl, string_bytes}
use Rattle.std.proofs.lemmas.Result.{IfOk-weaker}
use Rattle.svg_plots.specs.declared.colour.Colour.TheVariants.{Shade}
use Rattle.svg_plots.specs.declared.histogram.Histogram.{Histogram}
use Rattle.report_pictures.specs.LatencyPictures.{IsDrawnWith}
use Rattle.report_pictures.proofs.histogram.drawn.Goals as goal

pub returns : goal.returns
returns c =
    let histogram : Histogram = record { title = c.heading.result; panel = c.args.panel; bars = c.args.bars; colour = Shade 12 } in
    IfOk-weaker c.draw_histogram.result _ (λ text. IsDrawnWith c.args.panel.now c.args.bars.now c.args.notes.now (string_bytes text))
    (λ text is. (histogram, c.heading.ensures, refl, refl, refl, is))
    c.draw_histogram.ensures
