use Rattle.std.proofs.Common.{◌≡◌, drop}
use Rattle.bench_core.specs.Shown.{project_of}
use Rattle.lab_tasks.specs.Sweeps.{with_settings}
use Rattle.lab_tasks.proofs.sweep.set_row.Given as goal

abbrev pub invariant-loop-setting : goal.invariant-loop-setting
invariant-loop-setting g l = with_settings (project_of l.bench) (drop l.setting-index l.row) ≡ with_settings (project_of l.fn.bench) l.row
