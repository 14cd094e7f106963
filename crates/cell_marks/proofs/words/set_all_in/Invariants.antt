use Rattle.std.proofs.Common.{◌≡◌, ℕ, ◌*◌, ◌<◌, length, true}
use Rattle.cell_marks.specs.Bits.{bit_in}
use Rattle.cell_marks.proofs.words.set_all_in.Given as goal

abbrev pub invariant-loop-at : goal.invariant-loop-at
invariant-loop-at l = record {
  len : length l.words ≡ length l.initial.words;
  done : (k : ℕ) → k < 64 * l.at → bit_in l.words k ≡ true;
}
