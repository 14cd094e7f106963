use Rattle.flat_row.proofs.Deciding.{none_leave_both, none_turn_both}
use Rattle.flat_row.proofs.decide.none_together.Goals as goal

pub returns-clause-leave : goal.returns-clause-leave
returns-clause-leave c = none_leave_both c.args.by c.args.any c.args.room c.args.turn c.requires

pub returns-clause-turn : goal.returns-clause-turn
returns-clause-turn c = none_turn_both c.args.by c.args.any c.args.room c.args.turn c.requires
