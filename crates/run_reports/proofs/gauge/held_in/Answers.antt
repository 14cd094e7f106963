use Rattle.std.proofs.Common.{◌≡◌, ◌+◌, ℕ, sym, arith, slice_get}
use Rattle.run_reports.specs.Gauges.{held_at}
use Rattle.monitor_sums.specs.Adding.{sum_below}
use Rattle.monitor_sums.proofs.Adding.{sum_none, sum_more}
use Rattle.run_reports.proofs.gauge.held_in.Goals as goal

pub loop-place-init : goal.loop-place-init
loop-place-init c = record {
  is = sym (sum_none (λ (p : ℕ). held_at c.args.shape c.args.net c.args.stage p (slice_get c.args.states.now p)));
  small = omega arith;
}

pub loop-place-preserved : goal.loop-place-preserved
loop-place-preserved c =
    let more : sum_below (λ (p : ℕ). held_at c.args.shape c.args.net c.args.stage p (slice_get c.args.states.now p)) (c.loop-place.place + 1)
    ≡ sum_below (λ (p : ℕ). held_at c.args.shape c.args.net c.args.stage p (slice_get c.args.states.now p)) c.loop-place.place + held_at c.args.shape c.args.net c.args.stage c.loop-place.place (slice_get c.args.states.now c.loop-place.place) = sum_more (λ (p : ℕ). held_at c.args.shape c.args.net c.args.stage p (slice_get c.args.states.now p)) c.loop-place.place in
    record {
      is = omega arith;
      small = omega arith;
    }
