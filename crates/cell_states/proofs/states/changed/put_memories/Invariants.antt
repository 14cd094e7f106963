use Rattle.std.proofs.Common.{◌≡◌, ℕ, ◌-◌, ◌<◌, ◌≤◌, true, false, length, None, slice_index_or}
use Rattle.change_lists.specs.Changes.{changes_at, held_at as memory_at}
use Rattle.cell_states.specs.Filling.{is_awake}
use Rattle.cell_states.specs.Ready.{value_in}
use Rattle.cell_states.proofs.states.changed.put_memories.Given as goal

abbrev pub invariant-loop-component : goal.invariant-loop-component
invariant-loop-component g l = record {
  within : l.next ≤ length l.changes;
  width : length l.memories ≡ length l.initial.memories;
  len : length l.ready.items ≡ length l.initial.ready.items;
  put : (c : ℕ) → c < l.next → is_awake l.changes c ≡ true → memory_at l.memories c l.cycle ≡ value_in l.initial.memories c l.cycle (slice_index_or l.initial.ready.items c None);
  cycles : (c t : ℕ) → t < l.end → (t ≡ l.cycle → ⊥) → memory_at l.memories c t ≡ memory_at l.initial.memories c t;
  rest : (c : ℕ) → l.next ≤ c → changes_at l.memories c ≡ changes_at l.initial.memories c;
  left : (c : ℕ) → l.next ≤ c → slice_index_or l.ready.items c None ≡ slice_index_or l.initial.ready.items c None;
  others : (c : ℕ) → is_awake l.changes c ≡ false → changes_at l.memories c ≡ changes_at l.initial.memories c;
}

abbrev pub decreases-loop-component : goal.decreases-loop-component
decreases-loop-component g l = length l.changes - l.next
