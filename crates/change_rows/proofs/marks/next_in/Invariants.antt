use Rattle.std.proofs.Common.{◌≡◌, ℕ, ◌<◌, ◌≤◌, ◌-◌, false}
use Rattle.change_rows.specs.Marks.{is_set}
use Rattle.change_rows.proofs.marks.next_in.Given as goal

abbrev pub invariant-loop-at : goal.invariant-loop-at
invariant-loop-at l = record {
  from : l.t ≤ l.at;
  to : l.t ≤ l.end → l.at ≤ l.end;
  past : l.end < l.t → l.at ≡ l.t;
  none : (u : ℕ) → l.t ≤ u → u < l.at → is_set l.words u l.k ≡ false;
}

abbrev pub decreases-loop-at : goal.decreases-loop-at
decreases-loop-at l = l.end - l.at
