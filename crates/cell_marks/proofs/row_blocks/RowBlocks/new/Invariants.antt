use Rattle.std.proofs.Common.{◌≡◌, ℕ, ◌<◌, [], length, get_or, map}
use Rattle.cell_marks.proofs.Blocks.{IsBlock}
use Rattle.cell_marks.proofs.row_blocks.RowBlocks.new.Given as goal

abbrev pub invariant-loop-block : goal.invariant-loop-block
invariant-loop-block l = record {
  len : length l.by_block.items ≡ l.block;
  each : (b : ℕ) → b < l.block → IsBlock l.rows l.width b (get_or (map (λ block. block.items) l.by_block.items) b []);
}
