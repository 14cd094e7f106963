use Rattle.shared_bench.proofs.Told.{may_leave_changed}
use Rattle.shared_bench.proofs.pass.Pass.settle_some.Goals as goal

pub leave-requires-clause-may : goal.leave-requires-clause-may
leave-requires-clause-may g c = let settled = c.settle_some-settled.ensures in may_leave_changed _ _ _ _ c.wait_turn-bench.ensures.bench c.self.invariant.here settled.journal settled.project settled.kept
