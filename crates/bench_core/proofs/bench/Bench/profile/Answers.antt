use Rattle.bench_core.specs.Shown.{IsBench, IsCounted, project_of, present}
use Rattle.bench_core.proofs.Counting.{horizon_counted, none_past, profile_is_run}
use Rattle.bench_core.proofs.bench.Bench.profile.Goals as goal

pub returns-clause-profile : goal.returns-clause-profile
returns-clause-profile c =
    let b = c.args.self.now in
    let sums = c.sums.result.now in
    let bench : IsBench b.table b.journal = rw (← c.self.view_is) c.self.invariant.0 in
    let counts : IsCounted sums b.table = rw (← c.self.view_is) (rw c.sums.ensures at c.count.ensures.counted) in
    let is = c.profile.ensures.up_to (present b.table) (project_of b).horizon counts.counts (none_past b sums bench counts) (horizon_counted b sums bench counts) in
    profile_is_run b sums bench counts c.args.net c.args.stage c.profile.result c.requires.there is
