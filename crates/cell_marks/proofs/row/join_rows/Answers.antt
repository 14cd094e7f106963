use lib.Bits.{and_le_l}
use Rattle.std.proofs.Common.{◌+◌, ◌-◌, ◌*◌, ◌||◌, ◌∙◌, sym, ap, w64, arith}
use Rattle.std.specs.Int.{trailing_zeros}
use Rattle.std.proofs.lemmas.Nat.Bits.{bit_at-trailing_zeros}
use Rattle.cell_marks.specs.Bits.{block_rows}
use Rattle.cell_marks.specs.Marked.{is_set, row_at}
use Rattle.cell_marks.proofs.Blocks.{length_block}
use Rattle.cell_marks.proofs.Taken.{all_left, all_taken, less_left, one_taken}
use Rattle.cell_marks.proofs.row.join_rows.Goals as goal

pub loop-rest-init : goal.loop-rest-init
loop-rest-init c = record { fits = c.word-rest.type_inv; from = 64 * c.args.word; left = all_left c.args.set.now (64 * c.args.word) _ c.word-rest.ensures; bits = c.requires.before }

pub loop-rest-preserved : goal.loop-rest-preserved
loop-rest-preserved c =
    let first = 64 * c.args.word in
    let rest = c.loop-rest.rest in
    let i = c.loop-rest.invariant in
    let rows = block_rows c.args.block.now in
    let at = trailing_zeros w64 rest in
    let z = bit_at-trailing_zeros w64 rest (omega (arith, c.loop-rest-test.true)) i.fits in
    record {
      fits = omega (arith, and_le_l rest (rest - 1), i.fits);
      from = first + at + 1;
      left = less_left c.args.set.now first i.from rest i.left at z.0 z.1 z.2;
      bits = λ k h.
          c.join_row.ensures k h
          ∙ ap (λ b. b || is_set (row_at rows (first + at)) k) (i.bits k h)
          ∙ one_taken c.args.set.now first i.from rest i.left at z.0 z.1 z.2 rows k (length_block c.args.block.now ∙ c.requires.rows);
    }

pub returns : goal.returns
returns c = λ k h.
    let i = c.loop-rest.invariant in
    i.bits k h ∙ sym (all_taken c.args.set.now (64 * c.args.word) i.from c.loop-rest.rest i.left c.loop-rest-test.false (block_rows c.args.block.now) k)
