use Rattle.flat_row.proofs.Remembering.{only_if_grown}
use Rattle.flat_row.proofs.row.Row.load_memory.Goals as goal

pub returns-clause-only : goal.returns-clause-only
returns-clause-only c = only_if_grown c.set_memory.result c.args.self.now c.set_memory.new.self c.args.m c.args.words.now (c.set_memory.ensures.ok c.requires.rows) c.set_memory.ensures.err
