use Rattle.std.proofs.Common.{◌≡◌, take}
use Rattle.bench_core.specs.Shown.{project_of}
use Rattle.lab_tasks.specs.Tellings.{AreTold}
use Rattle.lab_tasks.proofs.telling.add_told.Given as goal

abbrev pub invariant-loop-asking : goal.invariant-loop-asking
invariant-loop-asking g l = record {
  project : project_of l.bench ≡ project_of l.fn.bench;
  cells : AreTold l.form (project_of l.fn.bench) (take l.asking-index l.askings) l.fn.cells.items l.cells.items;
}
