use Rattle.flat_row.proofs.Deciding.{none_leave, none_turn}
use Rattle.flat_row.proofs.decide.none_apart.Goals as goal

pub returns-clause-leave : goal.returns-clause-leave
returns-clause-leave c = none_leave c.args.by c.args.heads c.args.room c.args.turn c.requires

pub returns-clause-turn : goal.returns-clause-turn
returns-clause-turn c = none_turn c.args.by c.args.heads c.args.room c.args.turn c.requires
