use Rattle.std.proofs.Common.{◌≡◌, ℕ, ◌+◌, ◌-◌, ◌*◌, ◌<◌, ◌≤◌, is_some, length, take}
use Rattle.change_rows.specs.Cells.{found, end_of, component_at}
use Rattle.change_rows.specs.Marks.{is_one}
use Rattle.change_rows.proofs.marks.word_from.Given as goal

abbrev pub invariant-loop-i : goal.invariant-loop-i
invariant-loop-i l = record {
  within : l.i ≤ length l.cells;
  end : end_of (take l.i l.cells) ≤ 64 * (l.w + 1);
  above : l.i < length l.cells → 64 * l.w ≤ component_at l.cells l.i;
  bits : (k : ℕ) → k < 64 → is_one l.word k ≡ is_some (found (take l.i l.cells) (64 * l.w + k));
}

abbrev pub decreases-loop-i : goal.decreases-loop-i
decreases-loop-i l = length l.cells - l.i
