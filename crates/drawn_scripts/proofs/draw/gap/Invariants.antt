use Rattle.std.proofs.Common.{◌≡◌, ◌≤◌, ◌-◌}
use Rattle.project_book.specs.Limits.{max_times}
use Rattle.drawn_scripts.specs.Draws.{gap}
use Rattle.drawn_scripts.proofs.Drawing.{behind}
use Rattle.drawn_scripts.proofs.draw.gap.Given as goal

abbrev pub invariant-cycles : goal.invariant-cycles
invariant-cycles l = (l.cycles ≤ max_times) × (gap l.rate max_times l.fn.offers ≡ behind l.cycles (gap l.rate (max_times - l.cycles) l.offers))

abbrev pub decreases-cycles : goal.decreases-cycles
decreases-cycles l = max_times - l.cycles
