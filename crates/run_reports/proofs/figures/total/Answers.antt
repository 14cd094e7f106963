use Rattle.std.proofs.Common.{◌<◌, sym, length, arith}
use Rattle.monitor_sums.proofs.Adding.{sum_none}
use Rattle.run_reports.proofs.Figuring.{total_few, total_more}
use Rattle.run_reports.proofs.figures.total.Goals as goal

pub loop-latency-init : goal.loop-latency-init
loop-latency-init c = record { added = sym (sum_none _); few = omega arith }

pub loop-latency-preserved : goal.loop-latency-preserved
loop-latency-preserved c =
    let h = c.args.numbers.now in
    let n = c.loop-latency.latency in
    let less : n < length h = omega (arith, c.loop-latency-test.true) in
    record {
      added = total_more n c.loop-latency.total h less c.loop-latency.invariant.added;
      few = total_few n c.loop-latency.total h less (omega (arith, less, c.requires.short)) c.loop-latency.invariant.few;
    }
