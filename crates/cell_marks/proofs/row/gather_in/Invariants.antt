use Rattle.std.proofs.Common.{◌≡◌, ℕ, ◌*◌, ◌<◌, length}
use Rattle.cell_marks.specs.Bits.{bit_in}
use Rattle.cell_marks.specs.Marked.{any_marks}
use Rattle.cell_marks.proofs.row.gather_in.Given as goal

abbrev pub invariant-loop-block : goal.invariant-loop-block
invariant-loop-block l = record {
  len : length l.words ≡ length l.initial.words;
  done : (k : ℕ) → k < 256 * l.block → k < l.n → bit_in l.words k ≡ any_marks l.set l.rows k (length l.set);
}
