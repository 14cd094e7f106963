use Rattle.std.proofs.Common.{sym}
use Rattle.svg_plots.proofs.picture.write_frame.Goals as goal

pub returns : goal.returns
returns c = rw (sym c.saturating_sub.ensures, sym c.saturating_sub-2.ensures) c.writeln.ensures.bytes
