use Rattle.std.proofs.Common.{◌+◌, ◌&&◌, eqb, get_or, take}
use Rattle.cell_states.specs.Near.{has}
use Rattle.due_cells.proofs.Marking.{listed_more}
use Rattle.due_cells.proofs.MarkedCells.{marked_then, ready_kept}
use Rattle.due_cells.proofs.cells.marking.mark_list.Goals as goal

pub mark_cell-requires-clause-ready : goal.mark_cell-requires-clause-ready
mark_cell-requires-clause-ready c =
    ready_kept c.args.version c.args.due.now c.loop-component.due c.args.versions.now.items c.loop-component.versions.items _ c.requires.layout c.loop-component.invariant c.args.cycle c.requires.cycle c.requires.ready

pub loop-component-preserved : goal.loop-component-preserved
loop-component-preserved c =
    let xs = c.args.components.now in
    let i = c.loop-component.component-index in
    marked_then c.args.version c.args.due.now c.loop-component.due c.mark_cell.new.due c.args.versions.now.items c.loop-component.versions.items c.mark_cell.new.versions.items (λ t d. (eqb t c.args.cycle) && has (take i xs) d) (λ t d. (eqb t c.args.cycle) && eqb d (get_or xs i 0)) (λ t d. (eqb t c.args.cycle) && has (take (i + 1) xs) d) c.loop-component.invariant c.mark_cell.ensures (λ t d. listed_more xs i t c.args.cycle d c.loop-component-test.true)
