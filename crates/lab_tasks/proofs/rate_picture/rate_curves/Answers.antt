use Rattle.std.proofs.Common.{◌≡◌, ◌∙◌, ◌+◌, ℕ, List, [], ap, sym, take, arith}
use Rattle.svg_plots.specs.Lists.{each}
use Rattle.svg_plots.proofs.Each.{each_kept}
use Rattle.lab_tasks.specs.RatePictures.{share_curves}
use Rattle.lab_tasks.proofs.rate_picture.rate_curves.Goals as goal

pub loop-place-preserved : goal.loop-place-preserved
loop-place-preserved c =
    let plan = c.args.plan.now in
    let points = c.args.points.now in
    let combine = c.args.combine in
    let xs = c.deref-hot-items.result.now in
    let place = c.loop-place.place in
    let same : xs ≡ plan.hot.items = c.deref-hot-items.ensures.value in
    each_kept (share_curves plan points combine) [] xs place 0 place _ c.loop-place.curves.items _ c.loop-place-test.true (omega arith)
    (c.loop-place.invariant ∙ ap (λ (ys : List ℕ). each (share_curves plan points combine) (take place ys)) (sym same)) c.in_ok-add_share.ensures
    ∙ ap (λ (ys : List ℕ). each (share_curves plan points combine) (take (place + 1) ys)) same
