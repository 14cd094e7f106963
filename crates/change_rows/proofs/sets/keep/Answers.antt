use Rattle.std.proofs.Common.{◌<◌, ◌∙◌, arith, length}
use Rattle.std.proofs.Math.ListN.{length-set}
use Rattle.change_rows.proofs.Joined.{word_done, word_rest, word_and}
use Rattle.change_rows.proofs.sets.keep.Goals as goal

pub loop-w-preserved : goal.loop-w-preserved
loop-w-preserved c =
    let l = c.loop-w in
    let i = l.invariant in
    let there : l.w < length l.set = omega (arith, c.loop-w-test.true, i.len) in
    record {
      len = length-set l.set l.w _ ∙ i.len;
      done = word_done c.args.set.now l.set l.w _ there _ i.done (word_and c.args.set.now l.set c.args.other.now l.w c.word_at.result i.rest c.word_at.ensures);
      rest = word_rest c.args.set.now l.set l.w _ there i.rest;
    }
