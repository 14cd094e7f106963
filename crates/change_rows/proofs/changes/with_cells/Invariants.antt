use Rattle.std.proofs.Common.{◌≡◌, ℕ, ◌/◌, ◌%◌, false, None, take}
use Rattle.change_rows.specs.Cells.{found}
use Rattle.change_rows.specs.Marks.{is_one}
use Rattle.change_rows.proofs.changes.with_cells.Given as goal

abbrev pub invariant-loop-i : goal.invariant-loop-i
invariant-loop-i l = record {
  kept : (k : ℕ) → is_one l.word k ≡ false → is_one l.initial.word k ≡ false;
  cells : (c : ℕ) → c / 64 ≡ l.w → is_one l.word (c % 64) ≡ false → found (take l.i l.cells) c ≡ None;
}
