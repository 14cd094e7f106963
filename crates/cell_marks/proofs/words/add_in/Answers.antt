use Rattle.std.proofs.Common.{◌+◌, ◌*◌, ◌<◌, ◌≤◌, ◌∙◌, arith, length}
use Rattle.std.proofs.Math.ListN.{length-set}
use Rattle.std.proofs.lemmas.Nat.{ones-le}
use Rattle.cell_marks.proofs.Added.{bits_union, added_more, added_rest, added_counted}
use Rattle.cell_marks.proofs.words.add_in.Goals as goal

pub overflow_add-added : goal.overflow_add-added
overflow_add-added c = omega (arith, c.loop-word.invariant.few, c.min.ensures, c.ranges.n.fits, ones-le c.min.result c.missing_bits-missing.result c.missing_bits-missing.ensures.below)

pub loop-word-preserved : goal.loop-word-preserved
loop-word-preserved c =
    let words = c.loop-word.words in
    let other = c.args.other.now in
    let k = c.loop-word.word in
    let m = c.min.result in
    let more = c.missing_bits-missing.result in
    let i = c.loop-word.invariant in
    let there : k < length words = omega (arith, i.len, c.requires.room) in
    let within : m ≤ 64 = omega (arith, c.min.ensures) in
    let room : 64 * k + m ≤ c.args.n = omega (arith, c.min.ensures) in
    record {
      len = length-set words k _ ∙ i.len;
      done = added_more words c.args.words.now other k more m c.args.n there c.min.ensures c.missing_bits-missing.ensures.below c.missing_bits-missing.ensures.bits i.done i.rest;
      rest = added_rest words c.args.words.now k _ i.rest;
      counted = omega (arith, added_counted words k _ more m c.args.n there within room c.missing_bits-missing.ensures.below c.missing_bits-missing.ensures.bits, i.counted);
      few = omega (arith, i.few, within, ones-le m more c.missing_bits-missing.ensures.below);
    }

pub returns-clause-bits : goal.returns-clause-bits
returns-clause-bits c = bits_union c.loop-word.words c.args.words.now c.args.other.now c.args.n (λ k h. c.loop-word.invariant.done k (omega arith) h)
