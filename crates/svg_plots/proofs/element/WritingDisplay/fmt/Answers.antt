use Rattle.std.proofs.Common.{sym}
use Rattle.svg_plots.proofs.element.WritingDisplay.fmt.Goals as goal

pub returns-clause-writes : goal.returns-clause-writes
returns-clause-writes g c = rw (sym c.weight-weight.ensures) c.write.ensures.writes
