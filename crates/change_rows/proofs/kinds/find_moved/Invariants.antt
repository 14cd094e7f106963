use Rattle.std.proofs.Common.{◌≡◌, ℕ, ◌<◌, ◌/◌, length, true, false}
use Rattle.change_rows.specs.Marks.{is_in}
use Rattle.change_rows.proofs.kinds.find_moved.Given as goal

abbrev pub invariant-loop-w : goal.invariant-loop-w
invariant-loop-w g l = record {
  len : length l.moved ≡ length l.initial.moved;
  done : (c : ℕ) → c / 64 < l.w → is_in l.moved c ≡ false → g.S.Source.still l.source c ≡ true;
}
