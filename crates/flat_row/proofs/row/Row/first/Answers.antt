use Rattle.flat_row.proofs.Starting.{same_row, made_is_row}
use Rattle.flat_row.proofs.row.Row.first.Goals as goal

pub invariant_of-result : goal.invariant_of-result
invariant_of-result c =
    made_is_row c.args.project.now _ c.is_project.ensures.project
    (same_row c.args.project.now _ _ _ _ _ _ c.shape-shape.ensures c.in_ok-low.ensures c.in_ok-comb.ensures c.in_ok-waits.ensures c.in_ok-procs.ensures c.in_ok-words.ensures)

pub returns : goal.returns
returns c = same_row c.args.project.now _ _ _ _ _ _ c.shape-shape.ensures c.in_ok-low.ensures c.in_ok-comb.ensures c.in_ok-waits.ensures c.in_ok-procs.ensures c.in_ok-words.ensures
