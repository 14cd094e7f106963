use Rattle.std.specs.Slice.Iter.{iter_rest}
use Rattle.std.specs.Iterator.Adapters.{zip_first, zip_second}
use Rattle.std.proofs.lemmas.Slice.Zip.{either_empty_from_Zip}
use Rattle.lab_tasks.specs.RowCells.{rows_with}
use Rattle.lab_tasks.proofs.RowCells.{rows_end}
use Rattle.lab_tasks.proofs.row_cells.rows_with.Goals as goal

pub returns : goal.returns
returns c =
    let it = c.loop-row.row-iterator in
    rows_end (rows_with c.args.rows.now c.args.cells.now) c.loop-row.made.items (iter_rest (zip_first it)) (iter_rest (zip_second it))
    (either_empty_from_Zip it c.next.new.self c.next.result c.in-None.is c.next.ensures.steps) c.loop-row.invariant
