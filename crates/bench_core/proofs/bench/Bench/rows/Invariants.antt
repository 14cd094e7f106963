use Rattle.std.proofs.Common.{◌≡◌, map, take}
use Rattle.std.specs.Arc.{arc_value}
use Rattle.machine_cells.specs.Run.{run}
use Rattle.bench_core.specs.Shown.{project_of}
use Rattle.bench_core.proofs.bench.Bench.rows.Given as goal

abbrev pub invariant-loop-cycle : goal.invariant-loop-cycle
invariant-loop-cycle l = map (λ row. map arc_value row.items) l.rows.items ≡ take l.cycle (run (project_of l.self))
