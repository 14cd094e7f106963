use Rattle.std.proofs.Common.{ap, ◌∙◌, Result}
use Rattle.rayon.specs.Lists.{min_len_base}
use Rattle.rayon.specs.declared.slice.Iter.{Iter}
use Rattle.rayon.proofs.ListFacts.{IfOk-then}
use Rattle.rayon.proofs.ToStd.{slice-AllZip}
use Rattle.experiments.specs.declared.offer.Offer.{Offer}
use Rattle.experiments.specs.declared.fault.Fault.{Fault}
use Rattle.experiments.specs.declared.traffic.Traffic.{Traffic}
use Rattle.experiments.specs.Traffic.{IsTrafficBy}
use Rattle.experiments.proofs.traffic.traffic_each.Goals as goal

pub returns : goal.returns
returns g c =
    let slice = ap (λ it. (min_len_base {P = Iter Offer} it).slice.now) c.map.ensures.base ∙ ap (λ it. it.slice.now) c.with_min_len.ensures.base ∙ c.par_iter.ensures in
    IfOk-then c.collect.result _ _ c.collect.ensures (λ v h.
    let chain = rw c.map.ensures.f at h.1 in
    rw h.2 (slice-AllZip chain.0 c.args.offers.now (chain.1 ∙ slice) (λ (offer : Offer) (r : Result Traffic Fault). IsTrafficBy offer r) h.0 chain.2))
