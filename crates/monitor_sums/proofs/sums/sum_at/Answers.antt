use Rattle.std.proofs.Common.{◌≡◌, ◌+◌, ◌-◌, ap, sym, arith}
use Rattle.monitor_sums.specs.Adding.{sum_below}
use Rattle.monitor_sums.specs.Counts.{part}
use Rattle.monitor_sums.specs.Kept.{kept_at}
use Rattle.monitor_sums.proofs.Over.{cycles_none, cycles_more}
use Rattle.monitor_sums.proofs.sums.sum_at.Goals as goal

pub loop-cycle-init : goal.loop-cycle-init
loop-cycle-init c = record {
  began = omega arith;
  value = sym (cycles_none (λ t d. part c.args.counter (kept_at c.args.cells.now.items t d)) c.args.from c.args.component);
  bound = omega arith;
}

pub loop-cycle-preserved : goal.loop-cycle-preserved
loop-cycle-preserved c =
    let more : sum_below (λ i. part c.args.counter (kept_at c.args.cells.now.items (i + c.args.from) c.args.component)) (c.loop-cycle.cycle + 1 - c.args.from)
    ≡ sum_below (λ i. part c.args.counter (kept_at c.args.cells.now.items (i + c.args.from) c.args.component)) (c.loop-cycle.cycle - c.args.from)
    + part c.args.counter (kept_at c.args.cells.now.items c.loop-cycle.cycle c.args.component) =
    cycles_more (λ t d. part c.args.counter (kept_at c.args.cells.now.items t d)) c.args.from c.loop-cycle.cycle c.args.component c.loop-cycle.invariant.began in
    let read : part c.args.counter c.cell_at.result ≡ part c.args.counter (kept_at c.args.cells.now.items c.loop-cycle.cycle c.args.component) =
    ap (part c.args.counter) c.cell_at.ensures in
    record {
      began = omega arith;
      value = omega arith;
      bound = omega arith;
    }
