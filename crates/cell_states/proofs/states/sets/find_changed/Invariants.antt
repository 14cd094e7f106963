use Rattle.std.proofs.Common.{◌≡◌, ℕ, ◌-◌, ◌<◌, ◌≤◌, true, false, length}
use Rattle.change_lists.specs.Changes.{held_at as memory_at}
use Rattle.change_rows.specs.Rows.{words_at}
use Rattle.cell_states.specs.Filling.{is_awake}
use Rattle.cell_states.proofs.states.sets.find_changed.Given as goal

abbrev pub invariant-loop-cycle : goal.invariant-loop-cycle
invariant-loop-cycle g l = record {
  len : length l.marks ≡ length l.initial.marks;
  words : (d : ℕ) → d < length l.marks → is_awake l.marks d ≡ false → words_at l.rows.rows (l.cycle - 1) d ≡ words_at l.rows.rows l.from d;
}

abbrev pub invariant-loop-c : goal.invariant-loop-c
invariant-loop-c g l = record {
  len : length l.marks ≡ length l.initial.marks;
  more : (d : ℕ) → is_awake l.initial.marks d ≡ true → is_awake l.marks d ≡ true;
  memory : (d : ℕ) → l.low ≤ d → d < l.c → is_awake l.marks d ≡ false → memory_at l.memories d l.to ≡ memory_at l.memories d l.from;
}
