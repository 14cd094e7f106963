use Rattle.bench_core.proofs.Settled.{placed}
use Rattle.bench_core.proofs.bench.Bench.is_placed.Goals as goal

pub returns : goal.returns
returns c = rw (← c.project.ensures) (placed c.project.result.now c.is_project.ensures.pages c.is_project.ensures.project.mapped)
