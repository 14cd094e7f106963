use Rattle.std.proofs.Common.{◌≤◌, drop}
use Rattle.mem_module.specs.Memory.{AscendsFrom, IsAscending}
use Rattle.whole_rows.proofs.memory.is_ascending.Given as goal

-- what is left ascends from there exactly where all do
abbrev pub invariant-loop-i : goal.invariant-loop-i
invariant-loop-i l = record {
  small : l.low ≤ 65536;
  left : IsAscending l.words → AscendsFrom l.low (drop l.i l.words);
  all : AscendsFrom l.low (drop l.i l.words) → IsAscending l.words;
}
