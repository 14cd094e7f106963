use Rattle.std.proofs.Common.{◌≡◌}
use Rattle.due_cells.specs.WholeRows.{HoldsRow}
use Rattle.due_cells.specs.Spares.{GoesAlong}
use Rattle.due_cells.proofs.WideRows.{row_there}
use Rattle.due_cells.proofs.few.put_stepped.Goals as goal

pub put_due-requires-clause-row : goal.put_due-requires-clause-row
put_due-requires-clause-row g c =
    let R = g.G.Grid.rules in
    let W = g.M.WholeRow in
    let s = c.args.slots.now in
    row_there (GoesAlong R W.stands W.state s) (λ a. a.cycle ≡ c.args.cycle) (λ t. HoldsRow R W.stands W.state s c.in-Some-along.a.row t)
    c.go_along.new.along c.in-Some-along.a c.in-Some-along.a.cycle c.args.cycle c.in-Some-along.is c.go_along.ensures.rows.along c.in-Some.ensures.there (λ h. h.holds) (λ h. h)
