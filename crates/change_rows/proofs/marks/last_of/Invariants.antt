use Rattle.std.proofs.Common.{◌≡◌, ℕ, ◌<◌, ◌≤◌, false}
use Rattle.change_rows.specs.Marks.{is_set}
use Rattle.change_rows.proofs.marks.last_of.Given as goal

abbrev pub invariant-loop-at : goal.invariant-loop-at
invariant-loop-at l = record {
  to : l.at ≤ l.to;
  none : (u : ℕ) → l.at ≤ u → u < l.to → is_set l.words u l.k ≡ false;
}

abbrev pub decreases-loop-at : goal.decreases-loop-at
decreases-loop-at l = l.at
