use Rattle.std.proofs.Common.{◌≡◌, ℕ, ◌/◌, ◌<◌, true, false}
use Rattle.change_rows.specs.Marks.{is_marked, is_in}
use Rattle.change_rows.proofs.marks.block_has_any.Given as goal

abbrev pub invariant-loop-w : goal.invariant-loop-w
invariant-loop-w l = (u c : ℕ) → u / 64 ≡ l.t / 64 → c / 64 < l.w → is_in l.set c ≡ true → is_marked l.lines.items u c ≡ false
