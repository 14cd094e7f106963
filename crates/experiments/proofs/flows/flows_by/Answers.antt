use Rattle.std.proofs.Common.{subst, arith}
use Rattle.project_book.specs.Project.{Project}
use Rattle.monitor_sums.specs.declared.counter.Counter.TheVariants.{Answered, Served}
use Rattle.experiments.specs.Loads.{IsLoad}
use Rattle.experiments.specs.Flows.{IsFlow}
use Rattle.experiments.proofs.flows.flows_by.Goals as goal

pub returns-in-Ok-flows_of : goal.returns-in-Ok-flows_of
returns-in-Ok-flows_of c =
    let flows = c.in-Ok-flows_of.flows in
    let there : IsLoad c.args.load = (omega arith, omega arith) in
    let own : IsFlow c.in-Ok.project Answered flows.answered.items × IsFlow c.in-Ok.project Served flows.served.items = (c.in-Ok-flows_of.ensures.answered, c.in-Ok-flows_of.ensures.served) in
    let moved = subst (λ (P : Project). IsFlow P Answered flows.answered.items × IsFlow P Served flows.served.items) c.in-Ok.ensures own in
    (there, moved.0, moved.1)
