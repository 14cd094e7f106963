use Rattle.std.proofs.Common.{◌≡◌, ℕ, ◌<◌, map, length}
use Rattle.std.specs.Arc.{arc_value}
use Rattle.project_book.specs.Scripts.{script_of}
use Rattle.project_book.proofs.scripts.same_scripts.Given as goal

abbrev pub invariant-loop-proc : goal.invariant-loop-proc
invariant-loop-proc l = record {
  many : length l.scripts ≡ length l.others;
  each : (p : ℕ) → p < l.proc → script_of (map arc_value l.scripts) p ≡ script_of (map arc_value l.others) p;
}
