use Rattle.std.proofs.Common.{arith}
use Rattle.run_reports.proofs.Columns.{cycle_shown}
use Rattle.run_reports.proofs.lengths.lengths_each.Goals as goal

pub loop-passed-preserved : goal.loop-passed-preserved
loop-passed-preserved c =
    let P = c.args.project.now in
    let r = c.advance.new.runner in
    record {
      at = c.in_ok-advance.ensures.at;
      behind = omega (arith, c.in_ok-advance.ensures.there);
      cycles = cycle_shown P r c.args.queues.now c.args.window.from c.loop-passed.passed c.loop-passed.cycles.items c.push.new.self.items c.in_ok-lengths_now.field-0
          c.in_ok-advance.ensures.at c.in_ok-advance.ensures.there c.in_ok-lengths_now.ensures c.in_ok-push.ensures.items c.loop-passed.invariant.cycles;
    }
