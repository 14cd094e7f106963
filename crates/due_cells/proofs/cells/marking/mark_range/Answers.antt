use Rattle.std.proofs.Common.{◌+◌, ◌&&◌, arith, eqb, leb, ltb}
use Rattle.due_cells.proofs.Marking.{cycle_more}
use Rattle.due_cells.proofs.MarkedCells.{marked_then, ready_kept}
use Rattle.due_cells.proofs.cells.marking.mark_range.Goals as goal

pub mark_cell-requires-clause-ready : goal.mark_cell-requires-clause-ready
mark_cell-requires-clause-ready c =
    let t = c.loop-cycle.cycle in
    ready_kept c.args.version c.args.due.now c.loop-cycle.due c.args.versions.now.items c.loop-cycle.versions.items _ c.requires.layout c.loop-cycle.invariant t (omega (arith, c.loop-cycle-test.true, c.requires.within.1)) (c.requires.ready t c.loop-cycle.auto.cycle c.loop-cycle-test.true)

pub loop-cycle-preserved : goal.loop-cycle-preserved
loop-cycle-preserved c =
    let t1 = c.loop-cycle.cycle in
    let range = c.args.range in
    marked_then c.args.version c.args.due.now c.loop-cycle.due c.mark_cell.new.due c.args.versions.now.items c.loop-cycle.versions.items c.mark_cell.new.versions.items (λ t d. (eqb d range.component) && (leb range.from t && ltb t t1)) (λ t d. (eqb t t1) && eqb d range.component) (λ t d. (eqb d range.component) && (leb range.from t && ltb t (t1 + 1))) c.loop-cycle.invariant c.mark_cell.ensures (λ t d. cycle_more (eqb d range.component) range.from t1 t c.loop-cycle.auto.cycle)
