use Rattle.std.proofs.Common.{◌<◌, ◌∙◌, ◌&&◌, not, arith, length}
use Rattle.std.proofs.Math.ListN.{length-set}
use Rattle.std.proofs.lemmas.Nat.{ones-le}
use Rattle.cell_marks.proofs.Added.{added_rest}
use Rattle.cell_marks.proofs.Kept.{left_bit, changed_more, counted_changed, counted_whole}
use Rattle.cell_marks.proofs.words.remove_in.Goals as goal

pub overflow_add-count : goal.overflow_add-count
overflow_add-count c = omega (arith, c.loop-word.invariant.few, c.min.ensures, c.ranges.n.fits, ones-le c.min.result c.missing_bits-bits.result c.missing_bits-bits.ensures.below)

pub loop-word-preserved : goal.loop-word-preserved
loop-word-preserved c =
    let words = c.loop-word.words in
    let k = c.loop-word.word in
    let i = c.loop-word.invariant in
    let there : k < length words = omega (arith, i.len, c.requires.room) in
    record {
      len = length-set words k _ ∙ i.len;
      done = changed_more (λ a b. a && not b) words c.args.words.now c.args.other.now k _ there (λ j h. left_bit _ _ j (omega (arith, c.type_inv.other k)) h) i.done i.rest;
      rest = added_rest words c.args.words.now k _ i.rest;
      counted = counted_changed words k _ c.args.n c.loop-word.count c.missing_bits-bits.result c.min.result there c.min.ensures (omega arith) c.missing_bits-bits.ensures.below c.missing_bits-bits.ensures.bits i.counted;
      few = omega (arith, i.few, c.min.ensures, ones-le c.min.result c.missing_bits-bits.result c.missing_bits-bits.ensures.below);
    }

pub returns-clause-count : goal.returns-clause-count
returns-clause-count c = counted_whole c.loop-word.words c.loop-word.word c.args.n c.loop-word.count (omega arith) c.loop-word.invariant.counted
