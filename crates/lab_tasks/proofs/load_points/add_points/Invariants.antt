use Rattle.std.proofs.Common.{Result}
use Rattle.std.specs.Slice.Iter.{iter_rest}
use Rattle.std.specs.Iterator.Adapters.{zip_first, zip_second}
use Rattle.experiments.specs.declared.fault.Fault.{Fault}
use Rattle.experiments.specs.declared.offer.Offer.{Offer}
use Rattle.experiments.specs.declared.traffic.Traffic.{Traffic}
use Rattle.experiments.specs.Traffic.{IsTrafficBy}
use Rattle.lab_tasks.specs.LoadTables.{IsLoadPoint}
use Rattle.lab_tasks.proofs.Adding.{Adding}
use Rattle.lab_tasks.proofs.load_points.add_points.Given as goal

abbrev pub invariant-loop-offer : goal.invariant-loop-offer
invariant-loop-offer g l =
    Adding IsLoadPoint (λ (load : Offer) (r : Result Traffic Fault). IsTrafficBy load r) l.offers
    (iter_rest (zip_first l.offer-iterator)) (iter_rest (zip_second l.offer-iterator)) l.fn.points.items l.points.items
