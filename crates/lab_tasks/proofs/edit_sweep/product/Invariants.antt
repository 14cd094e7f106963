use Rattle.std.proofs.Common.{◌≡◌, ◌*◌, ◌-◌, ◌^◌, ◌≤◌, drop}
use Rattle.std.specs.Prelude.{min}
use Rattle.lab_tasks.specs.EditSweeps.{product_of}
use Rattle.lab_tasks.proofs.edit_sweep.product.Given as goal

abbrev pub invariant-loop-axis : goal.invariant-loop-axis
invariant-loop-axis l = record {
  capped : l.count ≤ 2 ^ 64 - 1;
  left : min (l.count * product_of (drop l.axis-index l.axes)) (2 ^ 64 - 1) ≡ min (product_of l.axes) (2 ^ 64 - 1);
}
