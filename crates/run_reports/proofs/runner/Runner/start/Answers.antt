use Rattle.std.proofs.Common.{refl}
use Rattle.run_reports.proofs.Runners.{at_start}
use Rattle.run_reports.proofs.runner.Runner.start.Goals as goal

pub returns-clause-at : goal.returns-clause-at
returns-clause-at c = at_start c.args.project.now _ refl c.in_ok-row.ensures.states c.in_ok-row.ensures.of
