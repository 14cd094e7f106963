use Rattle.std.proofs.Common.{◌≡◌, ◌+◌, ◌*◌, ◌∙◌, ap, arith, min}
use Rattle.std.proofs.lemmas.Nat.{ones-le}
use Rattle.cell_marks.specs.Bits.{bits_of}
use Rattle.cell_marks.specs.Marked.{count_in}
use Rattle.cell_marks.proofs.Added.{counted_more}
use Rattle.cell_marks.proofs.words.counted_in.Goals as goal

pub overflow_add-count : goal.overflow_add-count
overflow_add-count c = omega (arith, c.loop-word.invariant.few, c.min.ensures, c.ranges.n.fits, ones-le c.min.result c.missing_bits-bits.result c.missing_bits-bits.ensures.below)

pub loop-word-preserved : goal.loop-word-preserved
loop-word-preserved c =
    let words = c.args.words.now in
    let n = c.args.n in
    let k = c.loop-word.word in
    let m = c.min.result in
    let bits = c.missing_bits-bits.result in
    let i = c.loop-word.invariant in
    let below : min n (64 * k) ≡ 64 * k = omega (arith, c.loop-word-test.true) in
    let next : 64 * k + m ≡ min n (64 * (k + 1)) = omega (arith, c.min.ensures, c.loop-word-test.true) in
    record {
      counted =
          let more = counted_more words k bits m (omega (arith, c.min.ensures)) c.missing_bits-bits.ensures.below c.missing_bits-bits.ensures.bits in
          let old = i.counted ∙ ap (λ j. count_in (bits_of words j)) below in
          omega (arith, more, old, ap (λ j. count_in (bits_of words j)) next);
      few = omega (arith, i.few, c.min.ensures, ones-le m bits c.missing_bits-bits.ensures.below);
    }

pub returns : goal.returns
returns c =
    let n = c.args.n in
    let all : min n (64 * c.loop-word.word) ≡ n = omega arith in
    c.loop-word.invariant.counted ∙ ap (λ j. count_in (bits_of c.args.words.now j)) all
