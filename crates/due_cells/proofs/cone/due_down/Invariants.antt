use Rattle.std.proofs.Common.{◌≡◌, ◌+◌, ◌-◌, ◌*◌, ◌≤◌, ◌<◌, ◌==◌, ℕ, length, false}
use Rattle.due_cells.specs.Seen.{due_at}
use Rattle.due_cells.specs.Cones.{is_in, earlier, count_in}
use Rattle.due_cells.proofs.cone.due_down.Given as goal

abbrev pub invariant-loop-cycle : goal.invariant-loop-cycle
invariant-loop-cycle g l = record {
  len : length l.members.marks ≡ g.G.Grid.rules.components l.slots;
  stay : l.members.grows ≡ false → (m : ℕ) → m < g.G.Grid.rules.components l.slots → earlier g.G.Grid.rules l.slots (is_in l.members) m ≡ is_in l.members m;
  total : l.due + count_in g.G.Grid.rules l.slots (due_at l.cells) (is_in l.members) l.cycle ≡ count_in g.G.Grid.rules l.slots (due_at l.cells) (λ m. m == l.fn.cell.component) l.fn.cell.cycle;
  few : l.due ≤ 4294967295 * (l.fn.cell.cycle - l.cycle);
}
