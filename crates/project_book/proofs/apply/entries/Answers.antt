use Rattle.std.proofs.Common.{arith}
use Rattle.project_book.proofs.apply.entries.Goals as goal

pub returns : goal.returns
returns c =
    let end = c.loop-index.auto.index-end c.requires in
    record {
      count = omega (arith, c.loop-index.invariant.count);
      each = λ i h. c.loop-index.invariant.each i (omega arith);
    }
