use Rattle.std.proofs.Common.{◌≡◌, ℕ, ◌-◌, ◌<◌, ◌≤◌, ◌&&◌, length}
use Rattle.std.specs.List.{list_any}
use Rattle.cell_states.specs.Near.{near_at}
use Rattle.cell_states.specs.Filling.{is_awake}
use Rattle.due_cells.proofs.readers.keep_woken.Given as goal

abbrev pub invariant-loop-component : goal.invariant-loop-component
invariant-loop-component l = record {
  within : l.next ≤ length l.rest;
  len : length l.rest ≡ length l.initial.rest;
  before : (k : ℕ) → k < l.next → is_awake l.rest k ≡ (is_awake l.initial.rest k && list_any (is_awake l.changes) (near_at l.near k));
  after : (k : ℕ) → l.next ≤ k → is_awake l.rest k ≡ is_awake l.initial.rest k;
}

abbrev pub decreases-loop-component : goal.decreases-loop-component
decreases-loop-component l = length l.rest - l.next
