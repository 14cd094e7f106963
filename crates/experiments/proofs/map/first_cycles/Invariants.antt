use Rattle.std.proofs.Common.{◌≡◌, ◌+◌, map, find}
use Rattle.std.specs.Prelude.{nat_le, slice_index}
use Rattle.omega_net.specs.Wires.{below}
use Rattle.experiments.proofs.map.first_cycles.Given as goal

abbrev pub invariant-loop-level : goal.invariant-loop-level
invariant-loop-level l = l.firsts.items ≡ map (λ j. find (λ t. nat_le (j + 1) (slice_index l.levels t)) (below l.cycles)) (below l.level)
