use Rattle.std.proofs.Common.{arith}
use Rattle.cell_marks.proofs.Added.{joined_more, added_rest}
use Rattle.cell_marks.proofs.words.join_four.Goals as goal

pub loop-at-preserved : goal.loop-at-preserved
loop-at-preserved c =
    let four = c.loop-at.four in
    let at = c.loop-at.at in
    let i = c.loop-at.invariant in
    record {
      done = joined_more four c.args.four.now c.args.other.now c.args.from at (omega arith) i.done i.rest;
      rest = added_rest four c.args.four.now at _ i.rest;
    }
