use Rattle.std.proofs.Common.{◌≡◌, ℕ, ◌+◌, ◌-◌, ◌*◌, ◌<◌, ◌≤◌, ◌∙◌, ◌⊎◌, inl, inr, ap, sym, arith, length}
use Rattle.std.proofs.lemmas.Bool.{cases_lt}
use Rattle.cell_marks.specs.Bits.{bit_in, block_rows}
use Rattle.cell_marks.specs.Marked.{any_marks}
use Rattle.cell_marks.proofs.Blocks.{any_alike}
use Rattle.cell_marks.proofs.row.gather_in.Goals as goal

pub loop-block-preserved : goal.loop-block-preserved
loop-block-preserved c = record {
  len = c.put_four.ensures.len ∙ c.loop-block.invariant.len;
  done = λ k h low. by_place k h low (cases_lt k (256 * c.loop-block.block));
}
  where
    here : (i k : ℕ) → 256 * c.loop-block.block + i ≡ k → i < 256 → k < c.args.n → bit_in c.put_four.new.words k ≡ any_marks c.args.set.now c.args.rows.now k (length c.args.set.now)
    here i k e h low =
        let set = c.args.set.now in
        let rows = c.args.rows.now in
        let place : 64 * (c.loop-block.block * 4) + i ≡ k = omega (arith, e) in
        ap (bit_in c.put_four.new.words) (sym place) ∙ c.put_four.ensures.here i h
        ∙ c.gather_four-four.ensures i h
        ∙ any_alike set (block_rows c.block.result.now) rows i (256 * c.loop-block.block + i) (length set) (λ d there. c.block.ensures.bits d i (omega (arith, there, c.requires.rows)) h (omega (arith, e, low, c.requires.width d there)))
        ∙ ap (λ d. any_marks set rows d (length set)) e

    by_place : (k : ℕ) → k < 256 * (c.loop-block.block + 1) → k < c.args.n → (k < 256 * c.loop-block.block) ⊎ (256 * c.loop-block.block ≤ k) → bit_in c.put_four.new.words k ≡ any_marks c.args.set.now c.args.rows.now k (length c.args.set.now)
    by_place k h low (inl l) = c.put_four.ensures.before k (omega (arith, l)) ∙ c.loop-block.invariant.done k l low
    by_place k h low (inr l) = here (k - 256 * c.loop-block.block) k (omega (arith, l)) (omega (arith, h, l)) low
