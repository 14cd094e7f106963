use Rattle.std.proofs.Common.{◌≡◌, ◌≤◌, ℕ, length, drop}
use Rattle.project_book.specs.Scripts.{AreFew}
use Rattle.project_file.specs.Processors.{each_set}
use Rattle.project_file.proofs.scripts.set_each.Given as goal

abbrev pub invariant-procs : goal.invariant-procs
invariant-procs l = record {
  count : length l.scripts ≡ length l.initial.scripts;
  few : (most : ℕ) → length l.entries ≤ most → AreFew most l.initial.scripts → AreFew most l.scripts;
  left : each_set l.initial.scripts l.procs l.entries ≡ each_set l.scripts (drop l.proc-index l.procs) l.entries;
}
