use Rattle.std.proofs.Common.{◌≡◌, ℕ, ◌<◌, ◌/◌, false}
use Rattle.change_rows.specs.Marks.{is_in}
use Rattle.change_rows.proofs.sets.is_void.Given as goal

abbrev pub invariant-loop-w : goal.invariant-loop-w
invariant-loop-w l = (c : ℕ) → c / 64 < l.w → is_in l.set c ≡ false
