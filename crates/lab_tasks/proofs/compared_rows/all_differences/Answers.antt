use Rattle.std.specs.Slice.Iter.{iter_rest}
use Rattle.std.specs.Iterator.Adapters.{zip_first, zip_second}
use Rattle.std.proofs.lemmas.Slice.Zip.{either_empty_from_Zip}
use Rattle.lab_tasks.specs.ComparedRows.{all_differences}
use Rattle.lab_tasks.proofs.ComparedRows.{all_differences_end}
use Rattle.lab_tasks.proofs.compared_rows.all_differences.Goals as goal

pub returns : goal.returns
returns c =
    let it = c.loop-one.one-iterator in
    all_differences_end c.args.depth (all_differences c.args.depth c.args.ones.now c.args.others.now) c.loop-one.all.items (iter_rest (zip_first it)) (iter_rest (zip_second it))
    (either_empty_from_Zip it c.next.new.self c.next.result c.in-None.is c.next.ensures.steps) c.loop-one.invariant
