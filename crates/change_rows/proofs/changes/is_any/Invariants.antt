use Rattle.std.proofs.Common.{◌≡◌, ℕ, true, None, take}
use Rattle.change_rows.specs.Cells.{found}
use Rattle.change_rows.specs.Marks.{is_in}
use Rattle.change_rows.proofs.changes.is_any.Given as goal

abbrev pub invariant-loop-i : goal.invariant-loop-i
invariant-loop-i l = (c : ℕ) → is_in l.set c ≡ true → found (take l.i l.cells) c ≡ None
