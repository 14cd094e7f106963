use Rattle.std.proofs.Common.{◌<◌, ap, subst, length}
use Rattle.std.proofs.Common.{None, Some}
use Rattle.flat_row.proofs.Meeting.{returns_is}
use Rattle.flat_row.proofs.combining.returns_to.Goals as goal

pub splits-requires-clause-index : goal.splits-requires-clause-index
splits-requires-clause-index c = subst (λ n. c.in-Some.index < n) (ap length c.at.ensures) c.in-Some.ensures.within

pub returns-in-Some-clause-shape : goal.returns-in-Some-clause-shape
returns-in-Some-clause-shape c = c.splits.ensures.shape

pub returns-in-Some-clause-met : goal.returns-in-Some-clause-met
returns-in-Some-clause-met c = returns_is c.args.settings.now c.args.reply c.args.x c.args.level.now c.args.waits.now (Some c.in-Some.index) c.at.result.now _ c.in-Some.ensures.index c.at.ensures c.splits.ensures.met

pub returns-in-Some-clause-only : goal.returns-in-Some-clause-only
returns-in-Some-clause-only c = c.splits.ensures.only

pub returns-in-None-clause-shape : goal.returns-in-None-clause-shape
returns-in-None-clause-shape c = c.sent_back.ensures.shape

pub returns-in-None-clause-met : goal.returns-in-None-clause-met
returns-in-None-clause-met c = returns_is c.args.settings.now c.args.reply c.args.x c.args.level.now c.args.waits.now None c.at.result.now _ c.in-None.ensures.index c.at.ensures c.sent_back.ensures.met

pub returns-in-None-clause-only : goal.returns-in-None-clause-only
returns-in-None-clause-only c = c.sent_back.ensures.only
