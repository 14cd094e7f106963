use Rattle.std.proofs.Common.{◌≡◌, ℕ, ◌<◌, ◌≤◌, ◌-◌, false}
use Rattle.change_rows.specs.Marks.{is_in}
use Rattle.change_rows.proofs.sets.next_in.Given as goal

abbrev pub invariant-loop-c : goal.invariant-loop-c
invariant-loop-c l = record {
  from : l.from ≤ l.c;
  passed : (d : ℕ) → l.from ≤ d → d < l.c → is_in l.set d ≡ false;
}

abbrev pub decreases-loop-c : goal.decreases-loop-c
decreases-loop-c l = l.end - l.c
