use Rattle.std.proofs.Common.{◌≡◌, ◌++◌}
use Rattle.lab_tasks.specs.ComparedMaps.{differences}
use Rattle.lab_tasks.proofs.compared_rows.differences.Given as goal

abbrev pub invariant-loop-one : goal.invariant-loop-one
invariant-loop-one l = differences l.depth l.fn.ones l.fn.others ≡ l.numbers.items ++ differences l.depth l.one-iterator.a.rest.now l.one-iterator.b.rest.now
