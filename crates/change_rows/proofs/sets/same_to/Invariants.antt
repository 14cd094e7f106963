use Rattle.std.proofs.Common.{◌≡◌, ℕ, ◌<◌, ◌≤◌, ◌-◌, true, false}
use Rattle.change_rows.specs.Marks.{is_in}
use Rattle.change_rows.proofs.sets.same_to.Given as goal

abbrev pub invariant-loop-c : goal.invariant-loop-c
invariant-loop-c l = record {
  from : l.from ≤ l.c;
  same : (d : ℕ) → l.from ≤ d → d < l.c → is_in l.one d ≡ is_in l.other d;
  none : (d : ℕ) → l.from ≤ d → d < l.c → is_in l.one d ≡ true → is_in l.but d ≡ false;
}

abbrev pub decreases-loop-c : goal.decreases-loop-c
decreases-loop-c l = l.end - l.c
