use Rattle.std.proofs.Common.{◌≡◌, ◌*◌, ◌-◌, ◌^◌, ◌≤◌, drop, length}
use Rattle.std.specs.Prelude.{min}
use Rattle.lab_tasks.specs.Sweeps.{rows_of}
use Rattle.lab_tasks.proofs.sweep.count_rows.Given as goal

abbrev pub invariant-loop-swept : goal.invariant-loop-swept
invariant-loop-swept l = record {
  capped : l.rows ≤ 2 ^ 32 - 1;
  left : min (l.rows * length (rows_of (drop l.swept-index l.all))) (2 ^ 32 - 1) ≡ min (length (rows_of l.all)) (2 ^ 32 - 1);
}
