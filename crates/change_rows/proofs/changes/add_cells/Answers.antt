use Rattle.std.proofs.Common.{◌<◌, ◌∙◌, arith, length}
use Rattle.change_rows.proofs.Marking.{below_lines}
use Rattle.change_rows.proofs.Begun.{added}
use Rattle.change_rows.proofs.changes.add_cells.Goals as goal

pub add-requires : goal.add-requires
add-requires c =
    let l = c.loop-i in
    let cells = c.args.cells.now in
    let here : l.i < length cells = omega (arith, c.loop-i-test.true, c.len-i-end.ensures.count) in
    below_lines cells l.i c.component.result (length l.set) here c.component.ensures (omega (arith, c.requires, l.invariant.len))

pub loop-i-preserved : goal.loop-i-preserved
loop-i-preserved c =
    let l = c.loop-i in
    let cells = c.args.cells.now in
    let here : l.i < length cells = omega (arith, c.loop-i-test.true, c.len-i-end.ensures.count) in
    record {
      len = c.add.ensures.len ∙ l.invariant.len;
      all = added c.args.set.now l.set c.add.new.set cells l.i c.component.result here c.component.ensures c.add.ensures.here c.add.ensures.others l.invariant.all;
    }
