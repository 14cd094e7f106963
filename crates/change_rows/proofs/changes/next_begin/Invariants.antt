use Rattle.std.proofs.Common.{◌≡◌, ℕ, ◌<◌, ◌≤◌, ◌-◌, true, None}
use Rattle.change_rows.specs.Marks.{is_in}
use Rattle.change_rows.specs.Changes.{begins_at}
use Rattle.change_rows.proofs.changes.next_begin.Given as goal

abbrev pub invariant-loop-u : goal.invariant-loop-u
invariant-loop-u l = record {
  from : l.t ≤ l.u;
  to : l.t ≤ l.end → l.u ≤ l.end;
  past : l.end < l.t → l.u ≡ l.t;
  steady : (k c : ℕ) → l.t ≤ k → k < l.u → c < l.s.width → is_in l.set c ≡ true → begins_at l.s.rows.items l.s.seam l.s.at c k ≡ None;
}

abbrev pub decreases-loop-u : goal.decreases-loop-u
decreases-loop-u l = l.end - l.u
