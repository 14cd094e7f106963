use Rattle.std.proofs.Common.{refl}
use Rattle.bench_core.proofs.bench.Bench.has_few_due.Goals as goal

pub returns : goal.returns
returns c = rw (c.pending_to.ensures.count, c.from.ensures, c.horizon-horizon.ensures.horizon, c.project.ensures, c.from-2.ensures, c.components.ensures.value, c.shape.ensures, c.project-2.ensures) refl
