use Rattle.std.proofs.Common.{arith, map}
use Rattle.std.proofs.lemmas.List.{length-map}
use Rattle.cell_marks.proofs.Blocks.{blocks_are}
use Rattle.cell_marks.proofs.row_blocks.RowBlocks.new.Goals as goal

pub returns : goal.returns
returns c =
    let i = c.loop-block.invariant in
    let list = c.loop-block.by_block.items in
    let len = length-map list (λ block. block.items) in
    blocks_are (map (λ block. block.items) list) c.args.rows.now c.args.width (omega (arith, len, i.len, c.div_ceil-count.ensures)) c.requires (λ b h. i.each b (omega (arith, h, len, i.len)))
