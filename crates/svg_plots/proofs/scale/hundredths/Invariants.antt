use Rattle.std.proofs.Common.{◌≡◌, ◌+◌, ◌-◌, ◌*◌, ◌<◌, ◌^◌}
use Rattle.svg_plots.specs.Logarithms.{log_places}
use Rattle.svg_plots.proofs.scale.hundredths.Given as goal

abbrev pub invariant-loop-place : goal.invariant-loop-place
invariant-loop-place l = (l.bits < 2 ^ l.place) × (l.rest < 2 ^ 31) × (log_places 10 l.number ≡ l.bits * 2 ^ (10 - l.place) + log_places (10 - l.place) l.rest)
