use Rattle.lab_tasks.specs.LoadPictures.{first_curves, load_curve}
use Rattle.lab_tasks.proofs.Listing.{map_after}
use Rattle.lab_tasks.proofs.load_picture.load_curves.Goals as goal

pub loop-curve-preserved : goal.loop-curve-preserved
loop-curve-preserved c =
    map_after (load_curve c.args.plan.now c.args.points.now c.args.shown) c.loop-curve.curve (first_curves c.args.shown) _ _ _
    c.loop-curve.invariant c.in_ok-push.ensures.items c.in_ok-load_curve.ensures
