use Rattle.std.proofs.Common.{◌-◌}
use Rattle.bench_core.specs.Shown.{project_of}
use Rattle.bench_core.proofs.bench.Bench.+seek.Given as goal

abbrev pub decreases-seek : goal.decreases-seek
decreases-seek l = (project_of l.self.now).horizon - l.last
