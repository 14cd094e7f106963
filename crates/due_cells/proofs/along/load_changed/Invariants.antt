use Rattle.std.proofs.Common.{◌≡◌, ℕ, ◌-◌, ◌<◌, ◌≤◌, false, length}
use Rattle.grid_law.specs.Run.{run}
use Rattle.cell_states.specs.Filling.{is_awake}
use Rattle.due_cells.proofs.along.load_changed.Given as goal

abbrev pub invariant-loop-component : goal.invariant-loop-component
invariant-loop-component g l = record {
  within : l.next ≤ length l.changed;
  stands : g.M.WholeRow.stands l.row l.slots;
  states : (c : ℕ) → c < g.G.Grid.rules.components l.slots → c < l.next → g.M.WholeRow.state l.row c ≡ run g.G.Grid.rules l.slots l.cycle c;
  same : (c : ℕ) → c < g.G.Grid.rules.components l.slots → is_awake l.changed c ≡ false → g.M.WholeRow.state l.row c ≡ run g.G.Grid.rules l.slots l.cycle c;
}

abbrev pub decreases-loop-component : goal.decreases-loop-component
decreases-loop-component g l = length l.changed - l.next
