use Rattle.std.proofs.Common.{◌∙◌, ◌++◌, ◌∷◌, ℕ, [], ap, arith}
use Rattle.svg_plots.proofs.Each.{each_kept}
use Rattle.svg_plots.specs.declared.curves.Curve.{Curve}
use Rattle.lab_tasks.specs.PlotPictures.{plot_curve}
use Rattle.lab_tasks.proofs.plot.plot_curves.Goals as goal

pub loop-place-preserved : goal.loop-place-preserved
loop-place-preserved c =
    each_kept (λ (place : ℕ) (y : ℕ). plot_curve c.args.names.now c.args.rows.now c.args.x place (record { place = y; fine = c.args.fine }) ∷ []) [] c.args.ys.now c.loop-place.place 0 c.loop-place.place _
    c.loop-place.curves.items c.push.new.self.items c.loop-place-test.true (omega arith) c.loop-place.invariant
    (c.in_ok-push.ensures.items ∙ ap (λ (curve : Curve). c.loop-place.curves.items ++ curve ∷ []) c.in_ok-curve.ensures)
