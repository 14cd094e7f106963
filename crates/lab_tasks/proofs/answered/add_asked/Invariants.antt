use Rattle.std.proofs.Common.{◌≡◌, ◌++◌, map, take}
use Rattle.svg_plots.specs.Lists.{each}
use Rattle.lab_tasks.specs.Answered.{columns_at}
use Rattle.lab_tasks.proofs.answered.add_asked.Given as goal

abbrev pub invariant-loop-place : goal.invariant-loop-place
invariant-loop-place l = l.names.items ≡ l.initial.names.items ++ each (columns_at l.form l.askings) (take l.place (map (λ ask. ask.now) l.asks))
