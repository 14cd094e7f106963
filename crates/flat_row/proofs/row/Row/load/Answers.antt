use Rattle.std.proofs.Common.{Some}
use Rattle.machine_cells.specs.Words.{memory_of, with_memory}
use Rattle.flat_row.specs.Row.{state_of}
use Rattle.flat_row.proofs.Placing.{states_put}
use Rattle.flat_row.proofs.row.Row.load.Goals as goal

pub returns-clause-states : goal.returns-clause-states
returns-clause-states c = λ s is told can.
    let done = c.load_words.ensures in
    states_put c.args.self.now c.load_words.new.self c.args.component (with_memory (memory_of (state_of c.args.self.now (Some c.args.component))) s) done.size c.requires (done.loaded s is told can) done.others
