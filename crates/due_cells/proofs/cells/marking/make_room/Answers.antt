use Rattle.std.proofs.Common.{arith}
use Rattle.due_cells.proofs.MarkedCells.{other_self, ready_idle}
use Rattle.due_cells.proofs.cells.marking.make_room.Goals as goal

pub returns-then-row_count-eq0-clause-row : goal.returns-then-row_count-eq0-clause-row
returns-then-row_count-eq0-clause-row c = other_self c.args.versions.now.items c.args.t

pub returns-then-row_count-eq0-clause-ready : goal.returns-then-row_count-eq0-clause-ready
returns-then-row_count-eq0-clause-ready c = λ v.
    ready_idle v c.args.due.now c.args.versions.now.items c.args.t (omega (arith, c.row_count.ensures, c.if-row_count-eq0.true))
