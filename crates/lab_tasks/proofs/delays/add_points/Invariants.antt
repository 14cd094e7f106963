use Rattle.std.proofs.Common.{Result}
use Rattle.std.specs.Slice.Iter.{iter_rest}
use Rattle.std.specs.Iterator.Adapters.{zip_first, zip_second}
use Rattle.experiments.specs.declared.fault.Fault.{Fault}
use Rattle.experiments.specs.declared.load.Load.{Load}
use Rattle.experiments.specs.declared.delays.ColdWaits.{ColdWaits}
use Rattle.experiments.specs.Delays.{IsWaitedBy}
use Rattle.lab_tasks.specs.Points.{first_measured, IsDelay}
use Rattle.lab_tasks.proofs.Adding.{Adding}
use Rattle.lab_tasks.proofs.delays.add_points.Given as goal

abbrev pub invariant-loop-load : goal.invariant-loop-load
invariant-loop-load g l =
    Adding (IsDelay l.plan) (λ (load : Load) (r : Result ColdWaits Fault). IsWaitedBy load (first_measured l.plan.cycles) r) l.loads
    (iter_rest (zip_first l.load-iterator)) (iter_rest (zip_second l.load-iterator)) l.fn.points.items l.points.items
