use Rattle.std.proofs.Common.{◌≡◌, ℕ, ◌-◌, ◌<◌, ◌≤◌, length, true, false, None}
use Rattle.grid_law.specs.Run.{run}
use Rattle.change_rows.specs.Cells.{found}
use Rattle.change_lists.specs.Changes.{list_at}
use Rattle.cell_states.specs.Filling.{is_awake}
use Rattle.cell_states.specs.Found.{IsFoundTo, IsFound}
use Rattle.cell_states.specs.NextWords.{HoldsWords}
use Rattle.cell_states.proofs.states.each.find_all.Given as goal

abbrev pub invariant-loop-component : goal.invariant-loop-component
invariant-loop-component g l = record {
  within : l.next ≤ length l.set;
  so_far : IsFoundTo (g.G.Grid.rules.components l.slots) l.draft l.memories l.ready.items l.changes l.next;
  held : HoldsWords g.G.Grid.rules g.G.Grid.codec g.M.WholeRow.stands g.M.WholeRow.state l.slots l.held;
  same : (c : ℕ) → list_at l.memories c ≡ list_at l.initial.memories c;
  each : (c : ℕ) → c < l.next → is_awake l.set c ≡ true → IsFound g.G.Grid.codec l.rows.rows l.draft l.memories l.ready.items l.changes l.cycle c (run g.G.Grid.rules l.slots l.cycle c);
  no_words : (c : ℕ) → is_awake l.set c ≡ false → found l.draft c ≡ None;
  unmarked : (c : ℕ) → is_awake l.set c ≡ false → is_awake l.changes c ≡ false;
}

abbrev pub decreases-loop-component : goal.decreases-loop-component
decreases-loop-component g l = length l.set - l.next
