use Rattle.std.proofs.Common.{◌-◌, ◌≤◌}
use Rattle.cell_table.proofs.table.Table.all_wait.Given as goal

abbrev pub invariant-loop-component : goal.invariant-loop-component
invariant-loop-component g l = l.from ≤ l.count

abbrev pub decreases-loop-component : goal.decreases-loop-component
decreases-loop-component g l = l.count - l.from
