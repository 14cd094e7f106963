use Rattle.std.proofs.Common.{Result, rules, refl}
use Rattle.std.specs.Slice.Iter.{iter_rest}
use Rattle.std.specs.Iterator.Adapters.{zip_first, zip_second}
use Rattle.std.proofs.lemmas.Slice.Zip.{Zip-more, either_empty_from_Zip}
use Rattle.experiments.specs.declared.offer.Offer.{Offer}
use Rattle.experiments.specs.declared.fault.Fault.{Fault}
use Rattle.experiments.specs.declared.traffic.Traffic.{Traffic}
use Rattle.experiments.specs.Traffic.{IsTrafficBy}
use Rattle.lab_tasks.specs.LoadTables.{IsLoadPoint}
use Rattle.lab_tasks.proofs.Adding.{adding-begin, adding-next, adding-end}
use Rattle.lab_tasks.proofs.load_points.add_points.Goals as goal

abbrev Given : Offer → Result Traffic Fault → Type 0
Given load r = IsTrafficBy load r

pub loop-offer-init : goal.loop-offer-init
loop-offer-init g c =
    let it = c.into_iter-offer-iterator.result in
    adding-begin IsLoadPoint Given c.args.offers.now
    (iter_rest (zip_first it)) c.in_ok-all.all.items
    (iter_rest (zip_second it)) _ _ (search rules) (search rules) refl c.in_ok-all.ensures

pub loop-offer-preserved : goal.loop-offer-preserved
loop-offer-preserved g c =
    let it = c.loop-offer.offer-iterator in
    let both = Zip-more it c.next.new.self c.next.result (c.in-Some.offer, c.in-Some.traffic) c.in-Some.is c.next.ensures.steps in
    adding-next IsLoadPoint Given c.args.offers.now
    (iter_rest (zip_first it)) (iter_rest (zip_first c.next.new.self)) (iter_rest (zip_second it)) (iter_rest (zip_second c.next.new.self)) c.args.points.now.items
    c.loop-offer.points.items c.push.new.self.items c.in-Some.offer.now
    c.in_ok-load_point.field-0 c.in-Some.traffic.now c.loop-offer.invariant both.0 both.1 c.in_ok-push.ensures.items c.in_ok-load_point.ensures.point

pub returns-clause-added : goal.returns-clause-added
returns-clause-added g c =
    let it = c.loop-offer.offer-iterator in
    adding-end IsLoadPoint Given c.args.offers.now
    (iter_rest (zip_first it)) (iter_rest (zip_second it)) c.args.points.now.items c.loop-offer.points.items c.loop-offer.invariant
    (either_empty_from_Zip it c.next.new.self c.next.result c.in-None.is c.next.ensures.steps)
