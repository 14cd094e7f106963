use Rattle.std.proofs.Common.{Result, rules, refl}
use Rattle.std.specs.Slice.Iter.{iter_rest}
use Rattle.std.specs.Iterator.Adapters.{zip_first, zip_second}
use Rattle.std.proofs.lemmas.Slice.Zip.{Zip-more, either_empty_from_Zip}
use Rattle.experiments.specs.declared.load.Load.{Load}
use Rattle.experiments.specs.declared.fault.Fault.{Fault}
use Rattle.experiments.specs.declared.steady.Steady.{Steady}
use Rattle.experiments.specs.Steady.{IsSteadyBy}
use Rattle.lab_tasks.specs.Points.{IsRate}
use Rattle.lab_tasks.proofs.Adding.{adding-begin, adding-next, adding-end}
use Rattle.lab_tasks.proofs.rates.add_points.Goals as goal

abbrev Given : Load → Result Steady Fault → Type 0
Given load r = IsSteadyBy load r

pub loop-load-init : goal.loop-load-init
loop-load-init g c =
    let it = c.into_iter-load-iterator.result in
    adding-begin IsRate Given c.args.loads.now
    (iter_rest (zip_first it)) c.in_ok-all.all.items
    (iter_rest (zip_second it)) _ _ (search rules) (search rules) refl c.in_ok-all.ensures

pub loop-load-preserved : goal.loop-load-preserved
loop-load-preserved g c =
    let it = c.loop-load.load-iterator in
    let both = Zip-more it c.next.new.self c.next.result (c.in-Some.load, c.in-Some.steady) c.in-Some.is c.next.ensures.steps in
    adding-next IsRate Given c.args.loads.now
    (iter_rest (zip_first it)) (iter_rest (zip_first c.next.new.self)) (iter_rest (zip_second it)) (iter_rest (zip_second c.next.new.self)) c.args.points.now.items
    c.loop-load.points.items c.push.new.self.items c.in-Some.load.now
    c.in_ok-rate_point.field-0 c.in-Some.steady.now c.loop-load.invariant both.0 both.1 c.in_ok-push.ensures.items c.in_ok-rate_point.ensures.point

pub returns-clause-added : goal.returns-clause-added
returns-clause-added g c =
    let it = c.loop-load.load-iterator in
    adding-end IsRate Given c.args.loads.now
    (iter_rest (zip_first it)) (iter_rest (zip_second it)) c.args.points.now.items c.loop-load.points.items c.loop-load.invariant
    (either_empty_from_Zip it c.next.new.self c.next.result c.in-None.is c.next.ensures.steps)
