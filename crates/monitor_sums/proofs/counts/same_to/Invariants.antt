use Rattle.std.proofs.Common.{◌≡◌, ℕ, ◌-◌, ◌<◌, ◌≤◌}
use Rattle.std.specs.Prelude.{slice_index_or}
use Rattle.monitor_sums.specs.Counts.{nothing}
use Rattle.monitor_sums.proofs.counts.same_to.Given as goal

abbrev pub decreases-loop-next : goal.decreases-loop-next
decreases-loop-next l = l.end - l.next

abbrev pub invariant-loop-next : goal.invariant-loop-next
invariant-loop-next l = record {
  on : l.cycle < l.next;
  within : l.next ≤ l.end;
  same : (t : ℕ) → l.cycle ≤ t → t < l.next → slice_index_or l.counts.items t nothing ≡ slice_index_or l.counts.items l.cycle nothing;
}
