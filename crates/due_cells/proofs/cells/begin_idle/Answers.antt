use Rattle.cell_states.specs.Versions.{lists}
use Rattle.due_cells.proofs.NotedRows.{idle_versions}
use Rattle.due_cells.proofs.cells.begin_idle.Goals as goal

pub returns-clause-due : goal.returns-clause-due
returns-clause-due c =
    idle_versions c.args.due.now.rows (lists c.args.versions.now.items) (lists c.begin_in.new.rows.items) c.args.t c.row_count.result c.row_count.ensures c.if-row_count-gt0.false c.begin_in.ensures.row.others
