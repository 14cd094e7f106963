use Rattle.bench_shell.proofs.Benches.{noted, kept, edit_gives, edit_wants}
use Rattle.bench_shell.proofs.bench.BenchDesk.edit.Goals as goal

pub returns-clause-gives : goal.returns-clause-gives
returns-clause-gives c = λ alone.
    let made = c.edit.ensures in
    edit_gives c.args.self.now c.edit.new.self c.args.edit c.edit.result made.refused made.accepted made.admitted made.version made.journal made.project made.err

pub returns-clause-made : goal.returns-clause-made
returns-clause-made c = noted c.args.self.now c.edit.new.self c.args.edit c.edit.result c.edit.ensures.journal c.edit.ensures.project

pub returns-clause-kept : goal.returns-clause-kept
returns-clause-kept c = kept c.args.self.now c.edit.new.self c.edit.result c.edit.ensures.err

pub returns-clause-wants : goal.returns-clause-wants
returns-clause-wants c = λ is last. edit_wants c.args.self.now c.edit.new.self c.args.edit c.edit.result c.edit.ensures.refused c.edit.ensures.accepted c.edit.ensures.err is last
