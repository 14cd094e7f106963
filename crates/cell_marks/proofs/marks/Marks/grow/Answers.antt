use Rattle.std.proofs.Common.{◌+◌, ◌<◌, ◌^◌, length, arith}
use Rattle.cell_marks.proofs.Totals.{total_small, marked_grown}
use Rattle.cell_marks.proofs.marks.Marks.grow.Goals as goal

pub overflow_add-self : goal.overflow_add-self
overflow_add-self c =
    let i = c.self.inside in
    let fits : length i.rows.items + c.args.m < 2 ^ 32 = rw (← c.self.view_is) at c.requires in
    let small = total_small i.width _ _ (marked_grown i.width i.rows.items i.total c.args.m c.args.is_marked c.self.invariant fits) (omega arith) in
    omega (arith, small, c.added-added.ensures)
