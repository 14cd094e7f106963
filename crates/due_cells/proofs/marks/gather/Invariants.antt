use Rattle.std.proofs.Common.{◌≡◌, ℕ, ◌<◌, ◌||◌, length, take, All}
use Rattle.cell_states.specs.Near.{has}
use Rattle.cell_states.specs.Filling.{is_awake}
use Rattle.due_cells.specs.Ranges.{has_later}
use Rattle.due_cells.proofs.marks.gather.Given as goal

abbrev pub invariant-loop-range : goal.invariant-loop-range
invariant-loop-range l = record {
  len : length l.row ≡ length l.initial.row;
  marked : (c : ℕ) → is_awake l.row c ≡ (is_awake l.initial.row c || has_later (take l.range-index l.ranges) l.to c);
  listed : (c : ℕ) → has l.list.items c ≡ (has l.initial.list.items c || has_later (take l.range-index l.ranges) l.to c);
  there : All (λ c. c < length l.initial.row) l.initial.list.items → All (λ c. c < length l.initial.row) l.list.items;
}
