use Rattle.std.proofs.Common.{◌≡◌, ◌+◌, map}
use Rattle.omega_net.specs.Wires.{below}
use Rattle.lab_shell.specs.Ranges.{range_line}
use Rattle.lab_shell.proofs.range.lines_for.Given as goal

abbrev pub invariant-loop-more : goal.invariant-loop-more
invariant-loop-more l = map (λ v. v.items) l.lines.items ≡ map (λ i. range_line l.word l.behind (l.from + i)) (below l.more)
