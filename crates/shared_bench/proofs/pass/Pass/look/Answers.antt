use Rattle.bench_core.specs.Told.{AnswersAt}
use Rattle.bench_core.proofs.Answered.{answers_at}
use Rattle.shared_bench.specs.Inside.{known_of}
use Rattle.shared_bench.proofs.Told.{may_leave}
use Rattle.shared_bench.proofs.Passes.{in_turn, said_seen}
use Rattle.shared_bench.proofs.pass.Pass.look.Goals as goal

pub leave-requires-clause-may : goal.leave-requires-clause-may
leave-requires-clause-may g c = rw c.look-asked.ensures.unchanged (may_leave _ _ _ c.wait_turn-bench.ensures.bench c.self.invariant.here)

pub returns-clause-answer : goal.returns-clause-answer
returns-clause-answer g c =
    let d = c.wait_turn-bench.result in
    let p = known_of c.leave.new.seat.table_id c.leave.new.seat.me c.self.inside.number in
    let t = in_turn c.leave.new.seat.table_id c.self.inside.number _ _ c.leave.new.seat.me d c.look-asked.new.self c.wait_turn-bench.ensures.bench c.leave.ensures.left in
    said_seen (λ P n. AnswersAt P n c.args.query c.look-asked.result) p d t (answers_at d c.args.query c.look-asked.result c.look-asked.ensures.asks)
