use Rattle.std.proofs.Common.{◌≡◌, ℕ, ◌<◌, ◌+◌, ◌*◌, [], length, get_or}
use Rattle.cell_marks.specs.Bits.{bit_in}
use Rattle.cell_marks.specs.Marked.{is_set, row_at}
use Rattle.cell_marks.proofs.row_blocks.block_of.Given as goal

abbrev pub invariant-loop-row : goal.invariant-loop-row
invariant-loop-row l = record {
  len : length l.words.items ≡ l.row-index;
  bits : (c : ℕ) → c < l.row-index → (k : ℕ) → k < 256 → 256 * l.block + k < length (row_at l.rows c) → bit_in (get_or l.words.items c []) k ≡ is_set (row_at l.rows c) (256 * l.block + k);
}
