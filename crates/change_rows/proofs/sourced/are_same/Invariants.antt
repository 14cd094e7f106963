use Rattle.std.proofs.Common.{◌≡◌, ℕ, ◌<◌, ◌≤◌, ◌-◌, true}
use Rattle.change_rows.specs.Marks.{is_in}
use Rattle.change_rows.specs.Standing.{standing}
use Rattle.change_rows.specs.Changes.{begins_at}
use Rattle.change_rows.proofs.sourced.are_same.Given as goal

abbrev pub invariant-loop-c : goal.invariant-loop-c
invariant-loop-c g l = record {
  same : (d : ℕ) → d < l.c → is_in l.moved d ≡ true → standing (begins_at l.s.rows.items l.s.seam l.s.at d) l.s.at ≡ g.S.Source.words l.source d;
  within : l.c ≤ l.s.width;
  member : l.c < l.s.width → is_in l.moved l.c ≡ true;
}

abbrev pub decreases-loop-c : goal.decreases-loop-c
decreases-loop-c g l = l.s.width - l.c
