use Rattle.std.proofs.Common.{◌≡◌, ◌++◌}
use Rattle.lab_tasks.specs.ComparedRows.{all_differences}
use Rattle.lab_tasks.proofs.compared_rows.all_differences.Given as goal

abbrev pub invariant-loop-one : goal.invariant-loop-one
invariant-loop-one l = all_differences l.depth l.fn.ones l.fn.others ≡ l.all.items ++ all_differences l.depth l.one-iterator.a.rest.now l.one-iterator.b.rest.now
