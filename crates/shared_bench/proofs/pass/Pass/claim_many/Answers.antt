use Rattle.shared_bench.specs.Inside.{known_of}
use Rattle.shared_bench.proofs.Lots.{lot_seen}
use Rattle.shared_bench.proofs.Passes.{in_turn}
use Rattle.shared_bench.proofs.pass.Pass.claim_many.Goals as goal

pub returns-clause-project : goal.returns-clause-project
returns-clause-project g c =
    let d = c.wait_turn-bench.result in
    let p = known_of c.leave.new.seat.table_id c.leave.new.seat.me c.self.inside.number in
    let t = in_turn c.leave.new.seat.table_id c.self.inside.number _ _ c.leave.new.seat.me d d c.wait_turn-bench.ensures.bench c.leave.ensures.left in
    lot_seen _ (λ v. v.items) p d c.args.from _ c.claim_many-claims.result t c.claim_many-claims.ensures
