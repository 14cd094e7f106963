use Rattle.std.proofs.Common.{Result}
use Rattle.std.specs.Slice.Iter.{iter_rest}
use Rattle.std.specs.Iterator.Adapters.{zip_first, zip_second}
use Rattle.experiments.specs.declared.fault.Fault.{Fault}
use Rattle.experiments.specs.declared.load.Load.{Load}
use Rattle.experiments.specs.declared.steady.Steady.{Steady}
use Rattle.experiments.specs.Steady.{IsSteadyBy}
use Rattle.lab_tasks.specs.Points.{IsRate}
use Rattle.lab_tasks.proofs.Adding.{Adding}
use Rattle.lab_tasks.proofs.rates.add_points.Given as goal

abbrev pub invariant-loop-load : goal.invariant-loop-load
invariant-loop-load g l =
    Adding IsRate (λ (load : Load) (r : Result Steady Fault). IsSteadyBy load r) l.loads
    (iter_rest (zip_first l.load-iterator)) (iter_rest (zip_second l.load-iterator)) l.fn.points.items l.points.items
