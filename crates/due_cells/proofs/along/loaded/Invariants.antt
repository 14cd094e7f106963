use Rattle.std.proofs.Common.{◌≡◌, ℕ, ◌<◌}
use Rattle.grid_law.specs.Run.{run}
use Rattle.due_cells.proofs.along.loaded.Given as goal

abbrev pub invariant-loop-component : goal.invariant-loop-component
invariant-loop-component g l = record {
  stands : g.M.WholeRow.stands l.row l.slots;
  states : (c : ℕ) → c < l.component → g.M.WholeRow.state l.row c ≡ run g.G.Grid.rules l.slots l.cycle c;
}
