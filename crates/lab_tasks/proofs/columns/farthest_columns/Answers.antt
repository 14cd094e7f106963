use Rattle.std.proofs.Common.{◌≡◌, ◌-◌, length, take, drop, arith}
use Rattle.std.proofs.lemmas.List.{length-drop, take_all}
use Rattle.lab_tasks.specs.Columns.{farthest_of}
use Rattle.lab_tasks.proofs.ColumnSteps.{column_kept, columns_end}
use Rattle.lab_tasks.proofs.columns.farthest_columns.Goals as goal

pub loop-column-preserved : goal.loop-column-preserved
loop-column-preserved c =
    let rest = c.loop-column.rest.now in
    let last = c.min-end.result in
    let whole : take (length rest - last) (drop last rest) ≡ drop last rest = take_all (length rest - last) (drop last rest) (omega (arith, length-drop last rest)) in
    rw (whole, c.in_ok-push.ensures.items)
    (column_kept (farthest_of c.args.middle) c.cycles_a_column-each.result _ c.loop-column.columns.items c.loop-column.column _ last rest c.farthest.result (rw c.columns_in-column-end.ensures at c.loop-column-test.true) c.min-end.ensures c.farthest.ensures
    c.loop-column.invariant)

pub returns : goal.returns
returns c =
    rw c.cycles_a_column-each.ensures.cycles at
    (columns_end (farthest_of c.args.middle) c.cycles_a_column-each.result _ c.loop-column.columns.items c.loop-column.column _ c.loop-column.rest.now (rw c.columns_in-column-end.ensures at c.loop-column-test.false) c.loop-column.invariant)
