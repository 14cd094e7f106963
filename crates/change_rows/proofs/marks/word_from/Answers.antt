use Rattle.std.proofs.Common.{◌≡◌, ◌+◌, ◌/◌, ◌*◌, ◌<◌, ◌≤◌, arith, length}
use Rattle.change_rows.specs.Cells.{component_at}
use Rattle.change_rows.proofs.Lined.{word_none, word_end, word_high, word_bits, word_whole}
use Rattle.change_rows.proofs.marks.word_from.Goals as goal

pub loop-i-init : goal.loop-i-init
loop-i-init c =
    let s = c.requires in
    record {
      within = s.within;
      end = omega (arith, s.below);
      above = s.above;
      bits = λ k h. word_none c.args.cells.now c.args.from c.args.w k s;
    }

pub loop-i-preserved : goal.loop-i-preserved
loop-i-preserved c =
    let cells = c.args.cells.now in
    let l = c.loop-i in
    let i = l.invariant in
    let w = c.args.w in
    let there : l.i < length cells = omega (arith, c.loop-i-test.true, c.len.ensures.count) in
    let x = c.component-in-loop-i in
    let here : x.result / 64 ≡ w = omega (arith, c.if-component-w.true, c.component.ensures, x.ensures) in
    record {
      within = omega (arith, there);
      end = word_end cells l.i x.result w there x.ensures here i.end;
      above = λ h. word_high cells l.i x.result w there x.ensures here c.len.ensures.ascending h;
      bits = word_bits cells l.i x.result w there x.ensures here l.word c.with_bit-word.result c.with_bit-word.ensures.set c.with_bit-word.ensures.others i.bits;
    }

pub returns-else-component-w-clause-marks : goal.returns-else-component-w-clause-marks
returns-else-component-w-clause-marks c =
    let cells = c.args.cells.now in
    let l = c.loop-i in
    let i = l.invariant in
    let w = c.args.w in
    let there : l.i < length cells = omega (arith, c.loop-i-test.true, c.len.ensures.count) in
    let high : 64 * (w + 1) ≤ component_at cells l.i = omega (arith, i.above there, c.component.ensures, c.if-component-w.false) in
    word_whole cells l.i w c.len.ensures.ascending i.within (λ h. high) l.word i.bits
