use Rattle.std.proofs.Common.{◌≡◌, ◌-◌, ◌≤◌, length}
use Rattle.cell_table.proofs.Alike.{AlikeTo}
use Rattle.cell_table.proofs.table.Table.begins_alike.Given as goal

abbrev pub invariant-loop-component : goal.invariant-loop-component
invariant-loop-component g l = record {
  within : l.from ≤ length l.initial.changes;
  len : length l.changes ≡ length l.initial.changes;
  alike : AlikeTo g.G.Grid.rules l.self l.cycle l.changes l.from;
}

abbrev pub decreases-loop-component : goal.decreases-loop-component
decreases-loop-component g l = length l.initial.changes - l.from
