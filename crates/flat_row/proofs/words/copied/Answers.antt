use Rattle.std.proofs.Common.{arith}
use Rattle.flat_row.proofs.Wording.{copy_more}
use Rattle.flat_row.proofs.words.copied.Goals as goal

pub loop-i-preserved : goal.loop-i-preserved
loop-i-preserved c = λ rise. copy_more c.args.stored.now c.loop-i.words c.put.new.self c.loop-i.i _ c.in_ok-put.ensures.ok (c.loop-i.invariant rise) rise (omega (arith, c.loop-i-test.true))
