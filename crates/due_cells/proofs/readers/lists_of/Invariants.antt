use Rattle.std.proofs.Common.{◌≡◌, ℕ, ◌<◌, ◌≤◌, length, false, All}
use Rattle.cell_states.specs.Near.{has}
use Rattle.due_cells.specs.Readers.{readers_at}
use Rattle.due_cells.proofs.readers.lists_of.Given as goal

abbrev pub invariant-loop-k : goal.invariant-loop-k
invariant-loop-k g l = record {
  len : length l.lists.items ≡ l.count;
  done : (c j : ℕ) → c < l.count → j < l.k → has (readers_at l.lists.items c) j ≡ has (g.G.Grid.rules.near l.slots j) c;
  rest : (c j : ℕ) → c < l.count → l.k ≤ j → has (readers_at l.lists.items c) j ≡ false;
  within : (c : ℕ) → c < l.count → All (λ j. j < l.count) (readers_at l.lists.items c);
}
