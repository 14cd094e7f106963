use Rattle.std.proofs.Common.{◌≡◌, ◌++◌, take}
use Rattle.lab_tasks.specs.SweepTables.{depth_words}
use Rattle.lab_tasks.proofs.sweep.add_depths.Given as goal

abbrev pub invariant-loop-setting : goal.invariant-loop-setting
invariant-loop-setting l = l.cells.items ≡ l.initial.cells.items ++ depth_words (take l.setting-index l.row)
