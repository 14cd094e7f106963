use Rattle.std.proofs.Common.{sym}
use Rattle.svg_plots.proofs.element.StrokeDisplay.fmt.Goals as goal

pub returns-clause-writes : goal.returns-clause-writes
returns-clause-writes g c = rw (sym c.dashes-dashes.ensures) c.write.ensures.writes
