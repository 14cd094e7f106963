use Rattle.std.proofs.Common.{◌≡◌, ℕ, ◌+◌, ◌*◌, ◌≤◌, ◌&&◌, nat_le, nat_lt, All, length}
use Rattle.std.specs.Prelude.{vec_len, vec_capacity}
use Rattle.cell_marks.proofs.Taken.{AreLeft}
use Rattle.cell_states.specs.Filling.{is_awake}
use Rattle.due_cells.specs.Ranges.{is_marked, IsWithin}
use Rattle.due_cells.proofs.ranges.add_word.Given as goal

abbrev pub invariant-loop-rest : goal.invariant-loop-rest
invariant-loop-rest l = record {
  next : ℕ;
  left : AreLeft l.changes (64 * l.word) next l.rest;
  room : vec_len l.ranges + length l.changes ≤ vec_capacity l.ranges + next;
  within : All (IsWithin l.to (length l.changes)) l.ranges.items;
  marked : (t c : ℕ) → is_marked l.ranges.items t c ≡ ((is_awake l.changes c && nat_lt c next) && (nat_le l.from t && nat_lt t l.to));
}

abbrev pub decreases-loop-rest : goal.decreases-loop-rest
decreases-loop-rest l = l.rest
