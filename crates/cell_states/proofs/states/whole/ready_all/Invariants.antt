use Rattle.std.proofs.Common.{◌≡◌, ℕ, ◌-◌, ◌<◌, ◌≤◌, length, true, false}
use Rattle.change_lists.specs.Changes.{list_at}
use Rattle.cell_states.specs.Filling.{is_awake}
use Rattle.cell_states.specs.Readied.{AreEach, IsReadied}
use Rattle.cell_states.proofs.states.whole.ready_all.Given as goal

abbrev pub invariant-loop-component : goal.invariant-loop-component
invariant-loop-component g l = record {
  within : l.next ≤ length l.set;
  each : AreEach (g.G.Grid.rules.components l.slots) l.memories l.ready.items l.changes;
  same : (c : ℕ) → list_at l.memories c ≡ list_at l.initial.memories c;
  ready : (c : ℕ) → c < l.next → is_awake l.set c ≡ true → IsReadied l.memories l.ready.items l.changes l.cycle c (g.G.Grid.codec.memory (g.M.WholeRow.state l.row c));
  unmarked : (c : ℕ) → is_awake l.set c ≡ false → is_awake l.changes c ≡ false;
  later : (c : ℕ) → l.next ≤ c → is_awake l.changes c ≡ false;
}

abbrev pub decreases-loop-component : goal.decreases-loop-component
decreases-loop-component g l = length l.set - l.next
