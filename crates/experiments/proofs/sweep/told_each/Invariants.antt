use Rattle.std.proofs.Common.{◌≡◌, map, take}
use Rattle.run_queries.specs.Answers.{answer}
use Rattle.bench_core.specs.Shown.{project_of}
use Rattle.experiments.proofs.sweep.told_each.Given as goal

abbrev pub invariant-loop-query : goal.invariant-loop-query
invariant-loop-query g l =
    (project_of l.bench ≡ project_of l.fn.bench) × (l.row.items ≡ map (answer (project_of l.fn.bench)) (take l.query-index l.queries))
