use Rattle.run_reports.specs.declared.gauge.Gauge.TheVariants.{CountedAt}
use Rattle.run_reports.proofs.Gauging.{one_placed}
use Rattle.run_reports.proofs.gauge_text.add_places.Goals as goal

pub loop-place-preserved : goal.loop-place-preserved
loop-place-preserved c =
    one_placed (CountedAt c.args.counter) c.loop-place.place c.args.all.now.items c.loop-place.all.items _ c.loop-place.invariant c.in_ok-push.ensures.items
