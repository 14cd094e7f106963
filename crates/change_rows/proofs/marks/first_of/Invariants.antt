use Rattle.std.proofs.Common.{◌≡◌, ℕ, ◌<◌, ◌≤◌, ◌-◌, false}
use Rattle.change_rows.specs.Marks.{is_set}
use Rattle.change_rows.proofs.marks.first_of.Given as goal

abbrev pub invariant-loop-at : goal.invariant-loop-at
invariant-loop-at l = record {
  from : l.from ≤ l.at;
  to : l.at ≤ l.to;
  none : (u : ℕ) → l.from ≤ u → u < l.at → is_set l.words u l.k ≡ false;
}

abbrev pub decreases-loop-at : goal.decreases-loop-at
decreases-loop-at l = l.to - l.at
