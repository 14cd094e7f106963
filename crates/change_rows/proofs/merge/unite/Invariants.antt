use Rattle.std.proofs.Common.{◌≡◌, ℕ, ◌<◌, ◌≤◌, length, take}
use Rattle.std.specs.Option.{option_or}
use Rattle.change_rows.specs.Cells.{found, end_of, component_at}
use Rattle.change_rows.proofs.merge.unite.Given as goal

abbrev pub invariant-loop-j : goal.invariant-loop-j
invariant-loop-j l = record {
  there : l.from ≤ length l.over;
  found : (c : ℕ) → found l.out c ≡ option_or (found (take l.from l.over) c) (found (take l.j l.under) c);
  end : end_of l.out ≤ end_of (take l.j l.under);
  low : end_of (take l.from l.over) ≤ end_of (take l.j l.under);
  high : l.from < length l.over → end_of (take l.j l.under) ≤ component_at l.over l.from;
}
