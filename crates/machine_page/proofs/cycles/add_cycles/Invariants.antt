use Rattle.std.proofs.Common.{◌≡◌, ◌≤◌, ◌+◌, ◌++◌, string_bytes}
use Rattle.machine_cells.specs.Run.{run}
use Rattle.machine_cells.specs.Runs.{state_in}
use Rattle.run_reports.specs.Runners.{IsAt}
use Rattle.machine_page.specs.Pages.{cycle_lines}
use Rattle.machine_page.proofs.cycles.add_cycles.Given as goal

abbrev pub invariant-loop-passed : goal.invariant-loop-passed
invariant-loop-passed l = record {
  at : IsAt l.project l.runner;
  behind : l.runner.cycle ≤ l.from + l.passed;
  text : string_bytes l.text ≡ string_bytes l.initial.text ++ cycle_lines l.project (state_in (run l.project)) l.from l.passed;
}
