use Rattle.std.proofs.Common.{◌∙◌, sym, subst}
use Rattle.bench_core.specs.Shown.{Shown, project_of, version_of}
use Rattle.bench_core.specs.Told.{TellsAt, TellsAsked}
use Rattle.bench_core.proofs.Settled.{told_settles, fault_told, fault_settles, fault_spent}
use Rattle.bench_core.proofs.bench.Bench.answer_at_once.Goals as goal

pub returns-in-Ok-clause-told : goal.returns-in-Ok-clause-told
returns-in-Ok-clause-told g c = subst (λ (b : Shown). TellsAt (project_of b) (version_of b) c.args.query c.tell.result) (sym c.tell.ensures.unchanged) c.tell.ensures.told

pub returns-in-Ok-clause-asks : goal.returns-in-Ok-clause-asks
returns-in-Ok-clause-asks g c = subst (λ (b : Shown). TellsAsked b c.args.query c.tell.result) (sym c.tell.ensures.unchanged) c.tell.ensures.asks

pub returns-in-Ok-clause-settles : goal.returns-in-Ok-clause-settles
returns-in-Ok-clause-settles g c =
    told_settles c.args.self.now c.settle_for.new.self c.tell.new.self c.args.query c.tell.result c.tell.ensures.unchanged c.tell.ensures.in_time c.in-Ok.ensures.settles

pub returns-in-Err-clause-told : goal.returns-in-Err-clause-told
returns-in-Err-clause-told g c =
    rw c.told_at_fault.ensures (fault_told c.args.self.now c.settle_for.new.self c.args.query c.requires.good c.settle_for.ensures.later.project c.requires.once c.in-Err.fault c.in-Err.ensures.differs).0

pub returns-in-Err-clause-asks : goal.returns-in-Err-clause-asks
returns-in-Err-clause-asks g c =
    rw c.told_at_fault.ensures (fault_told c.args.self.now c.settle_for.new.self c.args.query c.requires.good c.settle_for.ensures.later.project c.requires.once c.in-Err.fault c.in-Err.ensures.differs).1

pub returns-in-Err-clause-settles : goal.returns-in-Err-clause-settles
returns-in-Err-clause-settles g c =
    rw c.told_at_fault.ensures (fault_settles c.args.self.now c.settle_for.new.self c.args.query c.requires.good c.settle_for.ensures.later.project c.in-Err.fault c.in-Err.ensures.after_fault c.in-Err.ensures.differs)

pub returns-in-Err-clause-spent : goal.returns-in-Err-clause-spent
returns-in-Err-clause-spent g c = λ is. c.in-Err.ensures.spent (fault_spent c.in-Err.fault (sym c.told_at_fault.ensures ∙ is))
