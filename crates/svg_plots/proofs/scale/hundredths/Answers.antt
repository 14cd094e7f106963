use Rattle.std.proofs.Common.{ℕ, ◌*◌, ◌/◌, ap, sym, arith}
use Rattle.svg_plots.specs.Logarithms.{log_places}
use Rattle.svg_plots.proofs.Logs.{log_kept, log_end, pow_more}
use Rattle.svg_plots.proofs.scale.hundredths.Goals as goal

pub loop-place-preserved : goal.loop-place-preserved
loop-place-preserved c = (
  omega (arith, pow_more c.loop-place.place, c.loop-place.invariant.0, c.halved-left.ensures.bit),
  c.halved-left.ensures.small,
  rw (c.halved-left.ensures.left, c.halved-left.ensures.place, c.squared.ensures.square)
      (log_kept c.loop-place.place c.loop-place.bits c.loop-place.rest (log_places 10 c.args.number) c.loop-place-test.true c.loop-place.invariant.2),
)

pub returns-clause-hundredths : goal.returns-clause-hundredths
returns-clause-hundredths c =
    ap (λ b. b * 100 / 1024) (sym (log_end c.loop-place.place c.loop-place.bits c.loop-place.rest (log_places 10 c.args.number) (omega arith) c.loop-place.invariant.2))
