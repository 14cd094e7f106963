use Rattle.flat_row.proofs.Deciding.{leaving, turning}
use Rattle.flat_row.proofs.decide.decided_apart.Goals as goal

pub returns-clause-leave : goal.returns-clause-leave
returns-clause-leave c = leaving c.args.by c.args.heads c.args.room c.args.turn _ _ c.senders.result c.requires c.from_first-from_first.ensures c.from_second-from_second.ensures c.senders.ensures

pub returns-clause-turn : goal.returns-clause-turn
returns-clause-turn c = turning c.args.turn _ _ c.turns.result _ _ c.from_first-from_first.ensures c.from_second-from_second.ensures c.turns.ensures
