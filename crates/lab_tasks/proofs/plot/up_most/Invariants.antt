use Rattle.std.proofs.Common.{◌≡◌, max, take}
use Rattle.std.specs.List.{fold}
use Rattle.lab_tasks.proofs.plot.up_most.Given as goal

abbrev pub invariant-loop-point : goal.invariant-loop-point
invariant-loop-point l = l.most ≡ fold (λ n point. max n point.1) l.initial.most (take l.point-index l.points)
