use Rattle.std.proofs.Common.{ap, ◌∙◌, Result}
use Rattle.rayon.specs.Lists.{min_len_base}
use Rattle.rayon.specs.declared.slice.Iter.{Iter}
use Rattle.rayon.proofs.ListFacts.{IfOk-then}
use Rattle.rayon.proofs.ToStd.{slice-AllZip}
use Rattle.experiments.specs.declared.load.Load.{Load}
use Rattle.experiments.specs.declared.fault.Fault.{Fault}
use Rattle.experiments.specs.declared.delays.ColdWaits.{ColdWaits}
use Rattle.experiments.specs.Delays.{IsWaitedBy}
use Rattle.experiments.proofs.delays.waited_each.Goals as goal

pub returns : goal.returns
returns g c =
    let slice = ap (λ it. (min_len_base {P = Iter Load} it).slice.now) c.map.ensures.base ∙ ap (λ it. it.slice.now) c.with_min_len.ensures.base ∙ c.par_iter.ensures in
    IfOk-then c.collect.result _ _ c.collect.ensures (λ v h.
    let chain = rw c.map.ensures.f at h.1 in
    rw h.2 (slice-AllZip chain.0 c.args.loads.now (chain.1 ∙ slice) (λ (load : Load) (r : Result ColdWaits Fault). IsWaitedBy load c.args.from r) h.0 chain.2))
