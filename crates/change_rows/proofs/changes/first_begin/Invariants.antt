use Rattle.std.proofs.Common.{◌≡◌, ℕ, ◌-◌, ◌<◌, ◌≤◌, true, None}
use Rattle.change_rows.specs.Marks.{is_in}
use Rattle.change_rows.specs.Changes.{begins_at}
use Rattle.change_rows.proofs.changes.first_begin.Given as goal

abbrev pub invariant-loop-k : goal.invariant-loop-k
invariant-loop-k l = record {
  from : l.u ≤ l.k;
  to : l.k ≤ l.to;
  steady : (j c : ℕ) → l.u ≤ j → j < l.k → c < l.s.width → is_in l.set c ≡ true → begins_at l.s.rows.items l.s.seam l.s.at c j ≡ None;
}

abbrev pub decreases-loop-k : goal.decreases-loop-k
decreases-loop-k l = l.to - l.k
