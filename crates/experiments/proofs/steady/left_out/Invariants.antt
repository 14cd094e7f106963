use Rattle.std.proofs.Common.{◌≡◌, ◌+◌, ◌-◌, ◌*◌, ◌/◌}
use Rattle.experiments.specs.Steady.{first_steady, left_out}
use Rattle.experiments.proofs.steady.left_out.Given as goal

abbrev pub invariant-loop-nth : goal.invariant-loop-nth
invariant-loop-nth l =
    first_steady l.flow l.cycles (l.cycles / 2) ((l.cycles / 2 - 1) / 16 - l.nth) (16 * (l.nth + 1)) ≡ left_out l.flow l.cycles
