use Rattle.std.proofs.Common.{◌≡◌, ℕ, ◌-◌, ◌<◌, ◌≤◌, true, is_some}
use Rattle.change_rows.specs.Cells.{found, end_of}
use Rattle.change_rows.specs.Marks.{is_in}
use Rattle.change_rows.proofs.run.chosen_of.Given as goal

abbrev pub invariant-loop-c : goal.invariant-loop-c
invariant-loop-c l = record {
  chosen : (c : ℕ) → c < l.c → is_some (found l.out c) ≡ is_in l.set c;
  end : end_of l.out ≤ l.c;
  within : l.c ≤ l.width;
  member : l.c < l.width → is_in l.set l.c ≡ true;
}

abbrev pub decreases-loop-c : goal.decreases-loop-c
decreases-loop-c l = l.width - l.c
