use Rattle.std.proofs.Common.{◌-◌, ℕ, ◌<◌, ◌≤◌, length, slice_index_or}
use Rattle.change_lists.specs.declared.begun.Begun.{Begun}
use Rattle.change_lists.proofs.begun.sought.Given as goal

abbrev pub invariant-loop-low : goal.invariant-loop-low
invariant-loop-low g l = record {
  ordered : l.low ≤ l.high;
  within : l.high ≤ length l.begun;
  before : (k : ℕ) (d : Begun g.row.V.Denot) → k < l.low → (slice_index_or l.begun k d).from < l.t;
  behind : (k : ℕ) (d : Begun g.row.V.Denot) → l.high ≤ k → k < length l.begun → l.t ≤ (slice_index_or l.begun k d).from;
}

abbrev pub decreases-loop-low : goal.decreases-loop-low
decreases-loop-low g l = l.high - l.low
