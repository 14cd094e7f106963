use Rattle.std.proofs.Common.{◌≡◌, ℕ, ◌+◌, ◌*◌, ◌≤◌, ◌&&◌, nat_le, nat_lt, All, length}
use Rattle.std.specs.Prelude.{vec_len, vec_capacity}
use Rattle.cell_states.specs.Filling.{is_awake}
use Rattle.due_cells.specs.Ranges.{is_marked, IsWithin}
use Rattle.due_cells.proofs.ranges.ranges_in.Given as goal

abbrev pub invariant-loop-word : goal.invariant-loop-word
invariant-loop-word l = record {
  room : vec_len l.ranges + length l.changes ≤ vec_capacity l.ranges + 64 * l.word;
  within : All (IsWithin l.to (length l.changes)) l.ranges.items;
  marked : (t c : ℕ) → is_marked l.ranges.items t c ≡ ((is_awake l.changes c && nat_lt c (64 * l.word)) && (nat_le l.from t && nat_lt t l.to));
}
