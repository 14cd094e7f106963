use Rattle.std.proofs.Common.{◌≡◌, arith}
use Rattle.lab_tasks.proofs.plot.plot_ticks.Goals as goal

pub returns : goal.returns
returns c =
    let last : c.loop-place.place ≡ 9 = omega arith in
    rw (last, c.tick_step-step.ensures.step, c.unit_of-unit.ensures.unit) at c.loop-place.invariant
