use Rattle.std.proofs.Common.{◌≡◌, ◌∙◌, ◌*◌, ◌-◌, ◌^◌, length, get_or, ap, arith}
use Rattle.std.specs.Prelude.{min}
use Rattle.edit_templates.specs.declared.step.Axis.{Axis}
use Rattle.lab_tasks.proofs.EditRows.{product-next, product-last}
use Rattle.lab_tasks.proofs.edit_sweep.product.Goals as goal

pub loop-axis-preserved : goal.loop-axis-preserved
loop-axis-preserved c =
    let many : length c.as_slice.result.now ≡ length c.axis-item.result.steps.items = ap length c.as_slice.ensures.value in
    let same : length c.axis-item.result.steps.items ≡ length (get_or c.args.axes.now c.loop-axis.axis-index c.axis-item.result).steps.items = ap (λ (axis : Axis). length axis.steps.items) c.axis-item.is in
    record {
      capped = omega arith;
      left =
          product-next (2 ^ 64 - 1) c.loop-axis.count c.saturating_mul-count.result c.loop-axis.axis-index _ c.args.axes.now c.axis-item.result
          c.loop-axis-test.true
          (c.saturating_mul-count.ensures ∙ ap (λ n. min (c.loop-axis.count * n) (2 ^ 64 - 1)) (many ∙ same))
          c.loop-axis.invariant.left;
    }

pub returns : goal.returns
returns c = product-last (2 ^ 64 - 1) c.loop-axis.count c.loop-axis.axis-index _ c.args.axes.now c.loop-axis-test.false c.loop-axis.invariant.capped c.loop-axis.invariant.left
