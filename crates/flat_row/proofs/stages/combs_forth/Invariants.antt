use Rattle.std.proofs.Common.{◌-◌}
use Rattle.flat_row.proofs.Staging.{PartlyForth}
use Rattle.flat_row.proofs.stages.combs_forth.Given as goal

abbrev pub invariant-loop-done : goal.invariant-loop-done
invariant-loop-done l = PartlyForth l.project l.leave l.enter (l.project.k - l.done) l.fn.levels.items l.levels.items l.fn.waits.items l.waits.items
