use Rattle.std.proofs.Common.{◌≡◌, ℕ, ◌<◌, ◌≤◌, Some, []}
use Rattle.change_rows.specs.Cells.{found, end_of}
use Rattle.change_rows.proofs.grow.blank.Given as goal

abbrev pub invariant-loop-c : goal.invariant-loop-c
invariant-loop-c l = record {
  found : (c : ℕ) → c < l.c → found l.out c ≡ Some [];
  end : end_of l.out ≤ l.c;
}
