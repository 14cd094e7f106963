use Rattle.std.proofs.Common.{◌≡◌, ℕ, ◌*◌, ◌^◌, ◌<◌}
use Rattle.cell_marks.specs.Bits.{bit_in, block_rows}
use Rattle.cell_marks.specs.Marked.{any_marks}
use Rattle.cell_marks.proofs.Taken.{AreLeft}
use Rattle.cell_marks.proofs.row.join_rows.Given as goal

abbrev pub invariant-loop-rest : goal.invariant-loop-rest
invariant-loop-rest l = record {
  fits : l.rest < 2 ^ 64;
  from : ℕ;
  left : AreLeft l.set (64 * l.word) from l.rest;
  bits : (k : ℕ) → k < 256 → bit_in l.four k ≡ any_marks l.set (block_rows l.block) k from;
}

abbrev pub decreases-loop-rest : goal.decreases-loop-rest
decreases-loop-rest l = l.rest
