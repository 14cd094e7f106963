use Rattle.std.proofs.Common.{◌≡◌, length, drop}
use Rattle.project_book.specs.Limits.{script_entries}
use Rattle.project_book.specs.Scripts.{AreFew}
use Rattle.project_file.specs.Traffic.{each_drawn}
use Rattle.project_file.proofs.traffic.draw_each.Given as goal

abbrev pub invariant-procs : goal.invariant-procs
invariant-procs l = record {
  count : length l.scripts ≡ length l.initial.scripts;
  few : AreFew script_entries l.initial.scripts → AreFew script_entries l.scripts;
  left : each_drawn l.initial.scripts l.procs l.draw ≡ each_drawn l.scripts (drop l.proc-index l.procs) l.draw;
}
