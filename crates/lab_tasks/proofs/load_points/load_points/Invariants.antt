use Rattle.std.specs.Slice.Iter.{chunks_rest}
use Rattle.lab_tasks.specs.LoadTables.{IsLoadPoint}
use Rattle.lab_tasks.proofs.Adding.{Awaits}
use Rattle.lab_tasks.proofs.load_points.load_points.Given as goal

abbrev pub invariant-loop-some : goal.invariant-loop-some
invariant-loop-some g l = Awaits IsLoadPoint l.offers (chunks_rest l.some-iterator) l.points.items
