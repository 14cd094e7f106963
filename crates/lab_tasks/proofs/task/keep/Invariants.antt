use Rattle.std.proofs.Common.{◌≡◌, Some, take}
use Rattle.lab_tasks.specs.Added.{Adds}
use Rattle.lab_tasks.specs.Kept.{IsKept}
use Rattle.lab_tasks.specs.Outcomes.{files_of, folder_of}
use Rattle.lab_tasks.proofs.task.keep.Given as goal

abbrev pub invariant-loop-load : goal.invariant-loop-load
invariant-loop-load l = record {
  printed : l.outcome.printed.items ≡ l.fn.outcome.printed.items;
  files : Adds (IsKept l.folder) (take l.load-index l.loads) (files_of l.fn.outcome) (files_of l.outcome);
  folder : folder_of l.outcome ≡ Some l.folder;
}
