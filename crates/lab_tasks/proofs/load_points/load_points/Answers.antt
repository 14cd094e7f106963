use Rattle.std.specs.Slice.Iter.{chunks_rest}
use Rattle.lab_tasks.specs.LoadTables.{IsLoadPoint}
use Rattle.lab_tasks.proofs.Adding.{awaits-next, awaits-end}
use Rattle.lab_tasks.proofs.load_points.load_points.Goals as goal

pub loop-some-preserved : goal.loop-some-preserved
loop-some-preserved g c =
    let added = c.in_ok-add_points.ensures.added in
    awaits-next IsLoadPoint c.args.offers.now (chunks_rest c.loop-some.some-iterator) c.in-Some.some.now
    (chunks_rest c.next.new.self) c.loop-some.points.items added.0 c.add_points.new.points.items c.loop-some.invariant c.in-Some.ensures.steps.1.0 added.1 added.2

pub returns-clause-points : goal.returns-clause-points
returns-clause-points g c =
    awaits-end IsLoadPoint c.args.offers.now (chunks_rest c.loop-some.some-iterator) c.loop-some.points.items
    c.loop-some.invariant c.in-None.ensures.steps.1.0
