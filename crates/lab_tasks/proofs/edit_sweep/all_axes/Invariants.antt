use Rattle.std.proofs.Common.{map, take}
use Rattle.std.specs.List.{AllZip}
use Rattle.lab_tasks.specs.EditSweeps.{IsAxis}
use Rattle.lab_tasks.proofs.edit_sweep.all_axes.Given as goal

abbrev pub invariant-loop-word : goal.invariant-loop-word
invariant-loop-word l = AllZip (IsAxis l.project.k) (map (λ word. word.now) (take l.word-index l.words)) l.all.items
