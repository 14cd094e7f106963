-- A run that has come to a cycle.
use Rattle.std.specs.Prelude.{◌≡◌, ◌≤◌, Some, slice_get}
use Rattle.project_book.specs.Project.{Project}
use Rattle.machine_cells.specs.Run.{run}
use Rattle.flat_row.specs.Row.{IsRowOf, states_of}
use Rattle.run_reports.specs.declared.runner.Runner.{Runner}

-- the row is the run's whole state at the runner's cycle
pub record IsAt (P : Project) (r : Runner) : Type 0 where
  pub within : r.cycle ≤ P.horizon
  pub of : IsRowOf P r.row
  pub states : slice_get (run P) r.cycle ≡ Some (states_of r.row)
