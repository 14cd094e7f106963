use Rattle.std.proofs.Common.{◌≡◌, ℕ, ◌-◌, ◌<◌, ◌≤◌, true, false, length}
use Rattle.change_lists.specs.Changes.{changes_at, held_at as memory_at}
use Rattle.cell_states.specs.Filling.{is_awake}
use Rattle.cell_states.proofs.states.changed.go_on_changed.Given as goal

abbrev pub invariant-loop-c : goal.invariant-loop-c
invariant-loop-c g l = record {
  within : l.next ≤ length l.changes;
  width : length l.memories ≡ length l.initial.memories;
  repeated : (c t : ℕ) → c < l.next → is_awake l.changes c ≡ true → l.from ≤ t → t < l.to → memory_at l.memories c t ≡ memory_at l.initial.memories c (l.from - 1);
  earlier : (c t : ℕ) → t < l.from → memory_at l.memories c t ≡ memory_at l.initial.memories c t;
  behind : (c t : ℕ) → l.to ≤ t → t < l.end → memory_at l.memories c t ≡ memory_at l.initial.memories c t;
  rest : (c : ℕ) → l.next ≤ c → changes_at l.memories c ≡ changes_at l.initial.memories c;
  others : (c : ℕ) → is_awake l.changes c ≡ false → changes_at l.memories c ≡ changes_at l.initial.memories c;
}

abbrev pub decreases-loop-c : goal.decreases-loop-c
decreases-loop-c g l = length l.changes - l.next
