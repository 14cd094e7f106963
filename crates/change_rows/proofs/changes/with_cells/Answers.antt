use Rattle.std.proofs.Common.{◌≡◌, ◌∙◌, ◌<◌, ◌/◌, ◌%◌, ℕ, sym, ap, arith, length}
use Rattle.change_rows.specs.Marks.{is_one}
use Rattle.change_rows.proofs.Members.{none_more, bit_kept, bit_cells}
use Rattle.change_rows.proofs.changes.with_cells.Goals as goal
use Rattle.change_rows.proofs.changes.with_cells.Goals.{then-c-w, else-c-w}

pub loop-i-preserved : goal.loop-i-preserved
loop-i-preserved c =
    let l = c.loop-i in
    let cells = c.args.cells.now in
    let here : l.i < length cells = omega (arith, c.loop-i-test.true, c.len-i-end.ensures.count) in
    elim c.if-c-w.branch [
      | then-c-w w ↦
          let there : c.component-c.result / 64 ≡ c.args.w = omega (arith, w.if-c-w.true) in
          record {
            kept = λ k e. l.invariant.kept k (bit_kept cells l.i c.component-c.result c.args.w l.word w.with_bit-word.result here c.component-c.ensures there w.with_bit-word.ensures.set w.with_bit-word.ensures.others k (ap (λ (x : ℕ). is_one x k) (sym w.word-is) ∙ e));
            cells = λ d q e. bit_cells cells l.i c.component-c.result c.args.w l.word w.with_bit-word.result here c.component-c.ensures there w.with_bit-word.ensures.set w.with_bit-word.ensures.others l.invariant.cells d q (ap (λ (x : ℕ). is_one x (d % 64)) (sym w.word-is) ∙ e);
          }
      | else-c-w w ↦ record {
        kept = λ k e. l.invariant.kept k (ap (λ (x : ℕ). is_one x k) (sym w.word-is) ∙ e);
        cells = λ d q e. none_more cells l.i c.component-c.result d here c.component-c.ensures (λ r. absurd (omega (arith, w.if-c-w.false, q, r))) (l.invariant.cells d q (ap (λ (x : ℕ). is_one x (d % 64)) (sym w.word-is) ∙ e));
      }
    ]
