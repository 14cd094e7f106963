use Rattle.std.proofs.Common.{◌∙◌, sym, arith}
use Rattle.grid_law.specs.Run.{run}
use Rattle.cell_states.proofs.Whole.{same_value}
use Rattle.due_cells.proofs.along.bring.Goals as goal

pub load_changed-requires-clause-same : goal.load_changed-requires-clause-same
load_changed-requires-clause-same g c = λ d h a.
    let R = g.G.Grid.rules in
    let s = c.args.slots.now in
    let to = c.args.cycle in
    let from = c.args.along.now.cycle in
    let later = c.requires.later in
    c.requires.along.holds.states d h
    ∙ same_value (run R s from d) (run R s to d) (sym (c.requires.held from d (omega (arith, later)) h) ∙ sym (c.find_changed.ensures.same d (omega (arith, h, c.requires.along.width)) a) ∙ c.requires.held to d (omega arith) h)
