use Rattle.std.proofs.Common.{◌≡◌}
use Rattle.cell_table.specs.Waves.{works_below}
use Rattle.cell_table.proofs.table.Table.due_works.Given as goal

abbrev pub invariant-loop-component : goal.invariant-loop-component
invariant-loop-component g l = l.works.items ≡ works_below l.self.rows l.cycle l.component
