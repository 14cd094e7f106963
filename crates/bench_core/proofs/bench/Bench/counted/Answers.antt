use Rattle.std.proofs.Common.{◌≡◌, ◌∙◌}
use Rattle.monitor_sums.specs.Sums.{sum_of}
use Rattle.bench_core.specs.Shown.{IsBench, IsCounted, project_of, present}
use Rattle.bench_core.proofs.Counting.{horizon_counted, none_past, sum_is_run}
use Rattle.bench_core.proofs.bench.Bench.counted.Goals as goal

pub returns-then-to-horizon-clause-total : goal.returns-then-to-horizon-clause-total
returns-then-to-horizon-clause-total c =
    let b = c.args.self.now in
    let sums = c.sums-sums.result.now in
    let bench : IsBench b.table b.journal = rw (← c.self.view_is) c.self.invariant.0 in
    let counts : IsCounted sums b.table = rw (← c.self.view_is) (rw c.sums-sums.ensures at c.count.ensures.counted) in
    let end : c.horizon-horizon.result ≡ (project_of b).horizon = rw c.project.ensures at c.horizon-horizon.ensures.horizon in
    let to_end : c.args.to ≡ (project_of b).horizon = c.if-to-horizon.true ∙ end in
    let total : c.total.result ≡ sum_of sums.k c.args.counter (present b.table) c.args.who 0 (project_of b).horizon =
    c.total.ensures.up_to (present b.table) (project_of b).horizon counts.counts (none_past b sums bench counts) (horizon_counted b sums bench counts) in
    let is : c.total.result ≡ sum_of sums.k c.args.counter (present b.table) c.args.who c.args.from c.args.to = rw (c.if-from-eq0.true, to_end) total in
    sum_is_run b sums bench counts c.args.counter c.args.who c.args.from c.args.to c.total.result c.requires.who c.requires.within c.requires.there is

pub returns-clause-total : goal.returns-clause-total
returns-clause-total c =
    let b = c.args.self.now in
    let sums = c.sums-sums.result.now in
    let bench : IsBench b.table b.journal = rw (← c.self.view_is) c.self.invariant.0 in
    let counts : IsCounted sums b.table = rw (← c.self.view_is) (rw c.sums-sums.ensures at c.count.ensures.counted) in
    sum_is_run b sums bench counts c.args.counter c.args.who c.args.from c.args.to c.sum.result c.requires.who c.requires.within c.requires.there (c.sum.ensures (present b.table) counts.counts)
