use Rattle.std.proofs.Common.{subst, inr, Ok}
use Rattle.bench_core.specs.Seeking.{SeeksAs}
use Rattle.bench_core.proofs.Answering.{found_told, reply_found, reply_none}
use Rattle.bench_core.proofs.bench.Bench.answer_reply.Goals as goal

pub returns-in-Ok-Some-clause-told : goal.returns-in-Ok-Some-clause-told
returns-in-Ok-Some-clause-told g c =
    (found_told c.args.self.now c.seek.new.self c.args.proc c.args.issue c.begins_at-begin.result c.version.result c.in-Ok-Some.received c.requires.good c.seek.ensures.later.project c.version.ensures (subst (λ o. SeeksAs c.args.proc c.args.issue c.begins_at-begin.result c.args.self.now c.seek.new.self (Ok o)) c.in-Ok-Some.field-0-is c.in-Ok-Some.ensures.seeks)).0

pub returns-in-Ok-Some-clause-asks : goal.returns-in-Ok-Some-clause-asks
returns-in-Ok-Some-clause-asks g c =
    (found_told c.args.self.now c.seek.new.self c.args.proc c.args.issue c.begins_at-begin.result c.version.result c.in-Ok-Some.received c.requires.good c.seek.ensures.later.project c.version.ensures (subst (λ o. SeeksAs c.args.proc c.args.issue c.begins_at-begin.result c.args.self.now c.seek.new.self (Ok o)) c.in-Ok-Some.field-0-is c.in-Ok-Some.ensures.seeks)).1

pub returns-in-Ok-Some-clause-settles : goal.returns-in-Ok-Some-clause-settles
returns-in-Ok-Some-clause-settles g c =
    inr (reply_found c.args.self.now c.seek.new.self c.args.proc c.args.issue c.begins_at-begin.result c.begins_at-begin.ensures.is c.version.result c.in-Ok-Some.received (subst (λ o. SeeksAs c.args.proc c.args.issue c.begins_at-begin.result c.args.self.now c.seek.new.self (Ok o)) c.in-Ok-Some.field-0-is c.in-Ok-Some.ensures.seeks))

pub returns-in-Ok-None-clause-settles : goal.returns-in-Ok-None-clause-settles
returns-in-Ok-None-clause-settles g c =
    inr (reply_none c.args.self.now c.seek.new.self c.args.proc c.args.issue c.begins_at-begin.result c.begins_at-begin.ensures.is c.tell-in-Ok-None.new.self c.tell-in-Ok-None.result c.tell-in-Ok-None.ensures.unchanged c.tell-in-Ok-None.ensures.in_time (subst (λ o. SeeksAs c.args.proc c.args.issue c.begins_at-begin.result c.args.self.now c.seek.new.self (Ok o)) c.in-Ok-None.field-0-is c.in-Ok-None.ensures.seeks))
