use Rattle.std.proofs.Common.{◌≡◌, ℕ, ◌||◌, is_some, length, take}
use Rattle.change_rows.specs.Cells.{found}
use Rattle.change_rows.specs.Marks.{is_in}
use Rattle.change_rows.proofs.changes.add_cells.Given as goal

abbrev pub invariant-loop-i : goal.invariant-loop-i
invariant-loop-i l = record {
  len : length l.set ≡ length l.initial.set;
  all : (c : ℕ) → is_in l.set c ≡ (is_in l.initial.set c || is_some (found (take l.i l.cells) c));
}
