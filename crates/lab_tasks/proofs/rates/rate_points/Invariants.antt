use Rattle.std.specs.Slice.Iter.{chunks_rest}
use Rattle.lab_tasks.specs.Points.{rate_loads, IsRate}
use Rattle.lab_tasks.proofs.Adding.{Awaits}
use Rattle.lab_tasks.proofs.rates.rate_points.Given as goal

abbrev pub invariant-loop-some : goal.invariant-loop-some
invariant-loop-some g l = Awaits IsRate (rate_loads l.plan) (chunks_rest l.some-iterator) l.points.items
