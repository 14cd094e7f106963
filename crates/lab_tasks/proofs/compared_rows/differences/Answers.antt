use Rattle.std.specs.Slice.Iter.{iter_rest}
use Rattle.std.specs.Iterator.Adapters.{zip_first, zip_second}
use Rattle.std.proofs.lemmas.Slice.Zip.{either_empty_from_Zip}
use Rattle.lab_tasks.specs.ComparedMaps.{differences}
use Rattle.lab_tasks.proofs.ComparedRows.{differences_end}
use Rattle.lab_tasks.proofs.compared_rows.differences.Goals as goal

pub returns : goal.returns
returns c =
    let it = c.loop-one.one-iterator in
    differences_end c.args.depth (differences c.args.depth c.args.ones.now c.args.others.now) c.loop-one.numbers.items (iter_rest (zip_first it)) (iter_rest (zip_second it))
    (either_empty_from_Zip it c.next.new.self c.next.result c.in-None.is c.next.ensures.steps) c.loop-one.invariant
