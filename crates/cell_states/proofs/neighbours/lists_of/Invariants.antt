use Rattle.std.proofs.Common.{◌≡◌, ℕ, ◌<◌, length}
use Rattle.cell_states.specs.Near.{near_at}
use Rattle.cell_states.proofs.neighbours.lists_of.Given as goal

abbrev pub invariant-loop-c : goal.invariant-loop-c
invariant-loop-c g l = record {
  len : length l.lists.items ≡ l.c;
  near : (c : ℕ) → c < l.c → near_at l.lists.items c ≡ g.G.Grid.rules.near l.slots c;
}
