use Rattle.std.proofs.Common.{◌≡◌, ℕ, ◌<◌, ◌/◌, length}
use Rattle.change_rows.specs.Marks.{is_in, is_marked}
use Rattle.change_rows.proofs.kinds.find_own.Given as goal

abbrev pub invariant-loop-w : goal.invariant-loop-w
invariant-loop-w l = record {
  len : length l.own ≡ length l.initial.own;
  done : (c : ℕ) → c / 64 < l.w → is_in l.own c ≡ is_marked l.s.marks.items l.t c;
}
