use Rattle.std.proofs.Common.{◌≡◌, ◌++◌, map, take}
use Rattle.std.specs.Prelude.{Some}
use Rattle.std.specs.List.{flat_map}
use Rattle.lab_tasks.specs.Answered.{refused_cells}
use Rattle.lab_tasks.proofs.answered.add_all_refused.Given as goal

abbrev pub invariant-loop-asking : goal.invariant-loop-asking
invariant-loop-asking l = map Some l.cells.items ≡ map Some l.initial.cells.items ++ flat_map (refused_cells l.form l.number) (take l.asking-index l.askings)
