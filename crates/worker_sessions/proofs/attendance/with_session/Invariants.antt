use Rattle.std.proofs.Common.{◌≡◌, ◌+◌, vec_len}
use Rattle.std.specs.Vec.Iter.{into_iter_len}
use Rattle.worker_sessions.proofs.attendance.with_session.Given as goal

abbrev pub invariant-gates : goal.invariant-gates
invariant-gates g l = vec_len l.all + into_iter_len l.gate-iterator ≡ vec_len l.fn.gates
