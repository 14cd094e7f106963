use Rattle.std.proofs.Common.{◌≡◌}
use Rattle.bench_tests.proofs.passes.many.rounds.Given as goal

abbrev pub invariant-loop-round : goal.invariant-loop-round
invariant-loop-round g l = l.pass.opening ≡ l.initial.pass.opening
