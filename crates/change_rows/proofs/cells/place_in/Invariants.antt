use Rattle.std.proofs.Common.{ℕ, ◌<◌, ◌≤◌, ◌-◌, length}
use Rattle.change_rows.specs.Packed.{head_at}
use Rattle.change_rows.proofs.cells.place_in.Given as goal

abbrev pub invariant-loop-low : goal.invariant-loop-low
invariant-loop-low l = record {
  ordered : l.low ≤ l.high;
  within : l.high ≤ length l.heads;
  below : (k : ℕ) → k < l.low → (head_at l.heads 0 k).component < l.c;
  above : (k : ℕ) → l.high ≤ k → k < length l.heads → l.c ≤ (head_at l.heads 0 k).component;
}

abbrev pub decreases-loop-low : goal.decreases-loop-low
decreases-loop-low l = l.high - l.low
