use Rattle.std.proofs.Common.{◌+◌, ◌∙◌, ◌&&◌, sym, ap, arith, eqb, leb, ltb, eq-eqb, length}
use Rattle.std.proofs.lemmas.Bool.{false≢true}
use Rattle.cell_states.specs.Near.{has}
use Rattle.due_cells.proofs.Marking.{cycle_more}
use Rattle.due_cells.proofs.MarkedCells.{marked_then, ready_kept}
use Rattle.due_cells.proofs.cells.marking.mark_later.Goals as goal

pub mark_row-requires-clause-ready : goal.mark_row-requires-clause-ready
mark_row-requires-clause-ready c =
    let t = c.loop-cycle.cycle in
    ready_kept c.args.version c.args.due.now c.loop-cycle.due c.args.versions.now.items c.loop-cycle.versions.items _ c.requires.layout c.loop-cycle.invariant t (omega (arith, c.loop-cycle-test.true, c.requires.to)) (c.requires.ready t (λ e. false≢true (sym c.if-is_empty.false ∙ c.is_empty.ensures ∙ eq-eqb (length c.args.list.now) 0 (ap length e))) c.loop-cycle.auto.cycle c.loop-cycle-test.true)

pub loop-cycle-preserved : goal.loop-cycle-preserved
loop-cycle-preserved c =
    let t1 = c.loop-cycle.cycle in
    let list = c.args.list.now in
    marked_then c.args.version c.args.due.now c.loop-cycle.due c.mark_row.new.due c.args.versions.now.items c.loop-cycle.versions.items c.mark_row.new.versions.items (λ t d. has list d && (leb 1 t && ltb t t1)) (λ t d. (eqb t t1) && has list d) (λ t d. has list d && (leb 1 t && ltb t (t1 + 1))) c.loop-cycle.invariant c.mark_row.ensures (λ t d. cycle_more (has list d) 1 t1 t c.loop-cycle.auto.cycle)
