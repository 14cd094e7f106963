use Rattle.shared_bench.proofs.Told.{may_leave}
use Rattle.shared_bench.proofs.pass.Pass.project.Goals as goal

pub leave-requires-clause-may : goal.leave-requires-clause-may
leave-requires-clause-may g c = may_leave _ _ _ c.wait_turn-bench.ensures.bench c.self.invariant.here
