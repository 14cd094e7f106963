use Rattle.std.proofs.Common.{◌≡◌, ℕ, ◌≤◌, cond, None, take}
use Rattle.change_rows.specs.Cells.{found, end_of}
use Rattle.change_rows.specs.Marks.{is_in}
use Rattle.change_rows.proofs.run.without.Given as goal

abbrev pub invariant-loop-i : goal.invariant-loop-i
invariant-loop-i l = record {
  found : (c : ℕ) → found l.out c ≡ cond (is_in l.set c) None (found (take l.i l.cells) c);
  end : end_of l.out ≤ end_of (take l.i l.cells);
}
