use Rattle.std.proofs.Common.{◌≡◌, ◌↔◌, ℕ, ◌-◌, ◌<◌, ◌≤◌, true, false, length}
use Rattle.change_lists.specs.Changes.{changes_at, held_at as memory_at}
use Rattle.cell_states.specs.Filling.{is_awake}
use Rattle.cell_states.proofs.states.whole.carry_all.Given as goal

abbrev pub invariant-loop-component : goal.invariant-loop-component
invariant-loop-component g l = record {
  width : length l.memories ≡ length l.initial.memories;
  changes : length l.changes ≡ length l.initial.changes;
  here : (c : ℕ) → l.low ≤ c → c < l.component → is_awake l.set c ≡ true → memory_at l.memories c l.cycle ≡ memory_at l.initial.memories c (l.cycle - 1);
  marked : (c : ℕ) → l.low ≤ c → c < l.component → is_awake l.set c ≡ true → (is_awake l.changes c ≡ false) ↔ (memory_at l.initial.memories c l.cycle ≡ memory_at l.initial.memories c (l.cycle - 1));
  cycles : (c t : ℕ) → t < l.end → (t ≡ l.cycle → ⊥) → memory_at l.memories c t ≡ memory_at l.initial.memories c t;
  out : (c : ℕ) → is_awake l.set c ≡ false → (changes_at l.memories c ≡ changes_at l.initial.memories c) × (is_awake l.changes c ≡ is_awake l.initial.changes c);
  later : (c : ℕ) → l.component ≤ c → (changes_at l.memories c ≡ changes_at l.initial.memories c) × (is_awake l.changes c ≡ is_awake l.initial.changes c);
  earlier : (c : ℕ) → c < l.low → (changes_at l.memories c ≡ changes_at l.initial.memories c) × (is_awake l.changes c ≡ is_awake l.initial.changes c);
}
