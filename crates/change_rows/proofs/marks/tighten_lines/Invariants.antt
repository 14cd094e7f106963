use Rattle.std.proofs.Common.{◌≡◌}
use Rattle.change_rows.proofs.marks.tighten_lines.Given as goal

abbrev pub invariant-loop-w : goal.invariant-loop-w
invariant-loop-w l = l.lines.items ≡ l.initial.lines.items
