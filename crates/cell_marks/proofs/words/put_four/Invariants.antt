use Rattle.std.proofs.Common.{◌≡◌, ℕ, ◌+◌, ◌*◌, ◌<◌, length}
use Rattle.cell_marks.specs.Bits.{bit_in}
use Rattle.cell_marks.proofs.words.put_four.Given as goal

abbrev pub invariant-loop-at : goal.invariant-loop-at
invariant-loop-at l = record {
  len : length l.words ≡ length l.initial.words;
  before : (k : ℕ) → k < 64 * l.from → bit_in l.words k ≡ bit_in l.initial.words k;
  done : (k : ℕ) → k < 64 * l.at → bit_in l.words (64 * l.from + k) ≡ bit_in l.four k;
}
