use Rattle.flat_row.proofs.Idling.{idle_stays}
use Rattle.flat_row.proofs.row.Row.stands_still.Goals as goal

pub returns : goal.returns
returns c = idle_stays c.args.project.now c.is_project.ensures.project c.args.self.now c.is_row.ensures c.requires.of c.requires.idle
