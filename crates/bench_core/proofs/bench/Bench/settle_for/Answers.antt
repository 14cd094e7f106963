use Rattle.std.proofs.Common.{Some, None}
use Rattle.bench_core.specs.Shown.{project_of}
use Rattle.bench_core.proofs.Settled.{looks_at_none, settled_good, settled_ready, settled_there, settles_none, settles_all, settles_first, spent_to}
use Rattle.bench_core.proofs.bench.Bench.settle_for.Goals as goal

pub returns-in-None-clause-settles : goal.returns-in-None-clause-settles
returns-in-None-clause-settles c =
    let d = c.args.self.now in
    settles_none d c.args.query (settled_good (project_of d) c.args.query None c.requires.good c.in-None.ensures.is)

pub returns-in-None-clause-ready : goal.returns-in-None-clause-ready
returns-in-None-clause-ready c = (looks_at_none c.args.self.now c.args.query c.in-None.ensures.is).0

pub returns-in-None-clause-there : goal.returns-in-None-clause-there
returns-in-None-clause-there c = (looks_at_none c.args.self.now c.args.query c.in-None.ensures.is).1

pub returns-in-Ok-clause-settles : goal.returns-in-Ok-clause-settles
returns-in-Ok-clause-settles c =
    let d = c.args.self.now in
    let is = settled_good (project_of d) c.args.query (Some c.in-Some.last) c.requires.good c.in-Some.ensures.is in
    settles_all d c.settle_to.new.self c.args.query c.in-Some.last c.in-Ok.field-0.computed is c.in-Ok.ensures.headline_settles

pub returns-in-Ok-clause-ready : goal.returns-in-Ok-clause-ready
returns-in-Ok-clause-ready c = settled_ready c.args.self.now c.settle_to.new.self c.args.query c.in-Some.last c.settle_to.ensures.later.project c.in-Some.ensures.is c.in-Ok.ensures.ready

pub returns-in-Ok-clause-there : goal.returns-in-Ok-clause-there
returns-in-Ok-clause-there c =
    settled_there c.args.self.now c.settle_to.new.self c.args.query c.in-Some.last c.settle_to.ensures.later.project c.in-Some.ensures.is c.is_bench.ensures.bench c.in-Ok.ensures.settled c.requires.good c.is_placed.ensures

pub returns-in-Err-clause-after_fault : goal.returns-in-Err-clause-after_fault
returns-in-Err-clause-after_fault c =
    let d = c.args.self.now in
    let is = settled_good (project_of d) c.args.query (Some c.in-Some.last) c.requires.good c.in-Some.ensures.is in
    settles_first d c.settle_to.new.self c.args.query c.in-Some.last _ is c.in-Err.ensures.after_fault

pub returns-in-Err-clause-differs : goal.returns-in-Err-clause-differs
returns-in-Err-clause-differs c = λ fault.
    let d = c.args.self.now in
    let is = settled_good (project_of d) c.args.query (Some c.in-Some.last) c.requires.good c.in-Some.ensures.is in
    spent_to d c.settle_to.new.self c.args.query c.in-Some.last is (c.in-Err.ensures.differs fault)
