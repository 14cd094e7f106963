use Rattle.std.proofs.Common.{◌∙◌}
use Rattle.bench_core.specs.Shown.{held}
use Rattle.bench_core.proofs.Filling.{stands_range}
use Rattle.bench_core.proofs.counters.count_ranges.Goals as goal

pub loop-range-preserved : goal.loop-range-preserved
loop-range-preserved c =
    let inv = c.loop-range.invariant in
    record {
      shape = c.count_filled.ensures.shape ∙ inv.shape;
      last = c.count_filled.ensures.last ∙ inv.last;
      stands = λ at s. stands_range c.loop-range.sums c.count_filled.new.sums at (held c.args.table.now) c.args.ranges.now c.loop-range.range-index _ c.loop-range-test.true (inv.stands at s) c.in_ok-count_filled.ensures.stands;
    }
