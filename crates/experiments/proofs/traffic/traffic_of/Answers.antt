use Rattle.std.proofs.Common.{subst}
use Rattle.project_book.specs.Project.{Project}
use Rattle.monitor_sums.specs.declared.counter.Counter.TheVariants.{Answered}
use Rattle.run_reports.specs.declared.condition.Condition.{Condition}
use Rattle.run_reports.specs.Latencies.{AreLatencies}
use Rattle.experiments.specs.Flows.{IsFlow}
use Rattle.experiments.specs.Offers.{project_offered}
use Rattle.experiments.proofs.traffic.traffic_of.Goals as goal

pub traffic_in-requires-clause-answered : goal.traffic_in-requires-clause-answered
traffic_in-requires-clause-answered c =
    subst (λ (P : Project). IsFlow P Answered c.in_ok-flows.flows.answered.items) c.requires.project c.in_ok-flows.ensures.answered

pub traffic_in-requires-clause-latencies : goal.traffic_in-requires-clause-latencies
traffic_in-requires-clause-latencies c =
    let own = subst (λ (P : Project). AreLatencies P c.issued_by_middle-condition.result c.in_ok-latencies.latencies) c.requires.project c.in_ok-latencies.ensures.latencies in
    subst (λ (d : Condition). AreLatencies (project_offered c.args.offer) d c.in_ok-latencies.latencies) c.issued_by_middle-condition.ensures own
