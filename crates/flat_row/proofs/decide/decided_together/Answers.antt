use Rattle.std.proofs.Common.{arith}
use Rattle.flat_row.proofs.Deciding.{both_first, both_second, both_leave, turning}
use Rattle.flat_row.proofs.decide.decided_together.Goals as goal

pub returns-clause-leave : goal.returns-clause-leave
returns-clause-leave c =
    let first = both_first c.args.by c.args.any c.args.room c.args.turn c.at_first.result c.both-two.result c.both-one.result (omega arith) c.at_first.ensures c.both-two.ensures c.both-one.ensures in
    let second = both_second c.args.by c.args.any c.args.room c.args.turn c.to_first.result c.both-two.result c.both-one.result c.to_first.ensures c.both-two.ensures c.both-one.ensures in
    both_leave c.args.by c.args.any c.args.room c.args.turn _ _ c.to_second.result c.requires first second c.to_second.ensures

pub returns-clause-turn : goal.returns-clause-turn
returns-clause-turn c =
    let first = both_first c.args.by c.args.any c.args.room c.args.turn c.at_first.result c.both-two.result c.both-one.result (omega arith) c.at_first.ensures c.both-two.ensures c.both-one.ensures in
    let second = both_second c.args.by c.args.any c.args.room c.args.turn c.to_first.result c.both-two.result c.both-one.result c.to_first.ensures c.both-two.ensures c.both-one.ensures in
    turning c.args.turn _ _ c.turns.result _ _ first second c.turns.ensures
