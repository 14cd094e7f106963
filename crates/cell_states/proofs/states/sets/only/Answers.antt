use Rattle.cell_states.proofs.Looking.{long_only, only_at}
use Rattle.cell_states.proofs.states.sets.only.Goals as goal

pub returns-clause-len : goal.returns-clause-len
returns-clause-len c = long_only c.args.marks.now c.clear_all.new.self c.add.new.self c.args.set.now c.clear_all.ensures c.add.ensures

pub returns-clause-marks : goal.returns-clause-marks
returns-clause-marks c = λ d h. only_at c.args.marks.now c.clear_all.new.self c.add.new.self c.args.set.now c.clear_all.ensures c.add.ensures d h
