use Rattle.std.proofs.Common.{◌≡◌, ℕ, ◌/◌, ◌<◌, true, false}
use Rattle.change_rows.specs.Marks.{is_marked, is_in}
use Rattle.change_rows.proofs.marks.has_any.Given as goal

abbrev pub invariant-loop-w : goal.invariant-loop-w
invariant-loop-w l = (c : ℕ) → c / 64 < l.w → is_in l.set c ≡ true → is_marked l.lines.items l.t c ≡ false
