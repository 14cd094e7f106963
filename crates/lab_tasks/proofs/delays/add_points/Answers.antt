use Rattle.std.proofs.Common.{Result, subst, rules, ℕ, refl}
use Rattle.std.specs.List.{AllZip}
use Rattle.std.specs.Slice.Iter.{iter_rest}
use Rattle.std.specs.Iterator.Adapters.{zip_first, zip_second}
use Rattle.std.proofs.lemmas.Slice.Zip.{Zip-more, either_empty_from_Zip}
use Rattle.experiments.specs.declared.load.Load.{Load}
use Rattle.experiments.specs.declared.fault.Fault.{Fault}
use Rattle.experiments.specs.declared.delays.ColdWaits.{ColdWaits}
use Rattle.experiments.specs.Delays.{IsWaitedBy}
use Rattle.lab_tasks.specs.Points.{first_measured, IsDelay}
use Rattle.lab_tasks.proofs.Adding.{adding-begin, adding-next, adding-end}
use Rattle.lab_tasks.proofs.delays.add_points.Goals as goal

abbrev Given : ℕ → Load → Result ColdWaits Fault → Type 0
Given from load r = IsWaitedBy load from r

pub loop-load-init : goal.loop-load-init
loop-load-init g c =
    let given = subst (λ from. AllZip (Given from) c.args.loads.now c.in_ok-all.all.items) c.first_measured.ensures c.in_ok-all.ensures in
    let it = c.into_iter-load-iterator.result in
    adding-begin (IsDelay c.args.plan.now) (Given (first_measured c.args.plan.now.cycles)) c.args.loads.now
    (iter_rest (zip_first it)) c.in_ok-all.all.items
    (iter_rest (zip_second it)) _ _ (search rules) (search rules) refl given

pub loop-load-preserved : goal.loop-load-preserved
loop-load-preserved g c =
    let it = c.loop-load.load-iterator in
    let both = Zip-more it c.next.new.self c.next.result (c.in-Some.load, c.in-Some.waits) c.in-Some.is c.next.ensures.steps in
    adding-next (IsDelay c.args.plan.now) (Given (first_measured c.args.plan.now.cycles)) c.args.loads.now
    (iter_rest (zip_first it)) (iter_rest (zip_first c.next.new.self)) (iter_rest (zip_second it)) (iter_rest (zip_second c.next.new.self)) c.args.points.now.items
    c.loop-load.points.items c.push.new.self.items c.in-Some.load.now
    c.in_ok-delay_point.field-0 c.in-Some.waits.now c.loop-load.invariant both.0 both.1 c.in_ok-push.ensures.items c.in_ok-delay_point.ensures.point

pub returns-clause-added : goal.returns-clause-added
returns-clause-added g c =
    let it = c.loop-load.load-iterator in
    adding-end (IsDelay c.args.plan.now) (Given (first_measured c.args.plan.now.cycles)) c.args.loads.now
    (iter_rest (zip_first it)) (iter_rest (zip_second it)) c.args.points.now.items c.loop-load.points.items c.loop-load.invariant
    (either_empty_from_Zip it c.next.new.self c.next.result c.in-None.is c.next.ensures.steps)
