use Rattle.std.proofs.Common.{◌≡◌, map, take}
use Rattle.std.specs.Arc.{arc_value}
use Rattle.machine_cells.specs.Run.{first_states}
use Rattle.machine_cells.proofs.Runs.{later}
use Rattle.bench_core.specs.Shown.{project_of}
use Rattle.bench_core.proofs.bench.Bench.row.Given as goal

abbrev pub invariant-loop-component : goal.invariant-loop-component
invariant-loop-component l = map arc_value l.row.items ≡ take l.component (later (project_of l.self) l.cycle (first_states (project_of l.self)))
