use Rattle.std.proofs.Common.{◌≡◌, ℕ, ◌*◌, ◌<◌}
use Rattle.cell_marks.specs.Bits.{bit_in, block_rows}
use Rattle.cell_marks.specs.Marked.{any_marks}
use Rattle.cell_marks.proofs.row.gather_four.Given as goal

abbrev pub invariant-loop-word : goal.invariant-loop-word
invariant-loop-word l = (k : ℕ) → k < 256 → bit_in l.four k ≡ any_marks l.set (block_rows l.block) k (64 * l.word)
