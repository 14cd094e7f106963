use Rattle.std.proofs.Common.{◌≡◌, ◌<◌, ◌≤◌, ◌-◌, true}
use Rattle.change_rows.specs.Marks.{is_in}
use Rattle.change_rows.specs.Kinds.{IsSeamLaid}
use Rattle.change_rows.proofs.sourced.keep_all.Given as goal

abbrev pub invariant-loop-c : goal.invariant-loop-c
invariant-loop-c l = record {
  laid : IsSeamLaid l.s.rows.items l.s.seam l.s.at l.kept l.c l.seam;
  within : l.c ≤ l.s.width;
  member : l.c < l.s.width → is_in l.kept l.c ≡ true;
}

abbrev pub decreases-loop-c : goal.decreases-loop-c
decreases-loop-c l = l.s.width - l.c
