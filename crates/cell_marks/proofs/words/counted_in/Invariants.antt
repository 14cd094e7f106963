use Rattle.std.proofs.Common.{◌≡◌, ◌*◌, ◌≤◌, min}
use Rattle.cell_marks.specs.Bits.{bits_of}
use Rattle.cell_marks.specs.Marked.{count_in}
use Rattle.cell_marks.proofs.words.counted_in.Given as goal

abbrev pub invariant-loop-word : goal.invariant-loop-word
invariant-loop-word l = record {
  counted : l.count ≡ count_in (bits_of l.words (min l.n (64 * l.word)));
  few : l.count ≤ 64 * l.word;
}
