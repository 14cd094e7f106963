use Rattle.std.proofs.Common.{refl}
use Rattle.run_reports.proofs.Runners.{at_next}
use Rattle.run_reports.proofs.runner.Runner.step.Goals as goal

pub returns-clause-at : goal.returns-clause-at
returns-clause-at c = at_next c.args.project.now c.args.self.now _ c.requires.at c.requires.within refl c.in-Ok.ensures.states c.in-Ok.ensures.of
