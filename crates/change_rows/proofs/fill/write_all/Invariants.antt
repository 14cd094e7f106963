use Rattle.std.proofs.Common.{◌≡◌, ℕ, ◌-◌, ◌<◌, ◌≤◌, true, false, Some, None}
use Rattle.change_rows.specs.Cells.{found, end_of}
use Rattle.change_rows.specs.Marks.{is_in}
use Rattle.change_rows.proofs.fill.write_all.Given as goal

abbrev pub invariant-loop-c : goal.invariant-loop-c
invariant-loop-c g l = record {
  written : (c : ℕ) → c < l.c → is_in l.moved c ≡ true → found l.row c ≡ Some (g.S.Source.words l.source c);
  still : (c : ℕ) → is_in l.moved c ≡ false → found l.row c ≡ None;
  end : end_of l.row ≤ l.c;
  within : l.c ≤ l.width;
  member : l.c < l.width → is_in l.moved l.c ≡ true;
}

abbrev pub decreases-loop-c : goal.decreases-loop-c
decreases-loop-c g l = l.width - l.c
