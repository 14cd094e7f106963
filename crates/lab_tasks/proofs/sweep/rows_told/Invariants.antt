use Rattle.std.proofs.Common.{take}
use Rattle.std.specs.List.{AllZip}
use Rattle.bench_core.specs.Shown.{project_of}
use Rattle.lab_tasks.specs.Sweeps.{rows_of}
use Rattle.lab_tasks.specs.SweepTables.{IsRow}
use Rattle.lab_tasks.proofs.SweepRows.{SameWhereSet, swept_queues}
use Rattle.lab_tasks.proofs.sweep.rows_told.Given as goal

abbrev pub invariant-loop-settings : goal.invariant-loop-settings
invariant-loop-settings g l = record {
  bench : SameWhereSet (swept_queues l.all) (project_of l.bench) (project_of l.fn.bench);
  rows : AllZip (IsRow l.form (project_of l.fn.bench) l.askings) (take l.settings-index (rows_of l.all)) l.told.items;
}
