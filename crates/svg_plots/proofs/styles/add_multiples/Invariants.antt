use Rattle.std.proofs.Common.{◌≡◌, ◌+◌, ◌*◌, ◌/◌, ◌++◌, take}
use Rattle.std.specs.List.{flat_map}
use Rattle.svg_plots.specs.AxisTicks.{tick_within}
use Rattle.svg_plots.proofs.styles.add_multiples.Given as goal

abbrev pub invariant-loop-place : goal.invariant-loop-place
invariant-loop-place l = l.ticks.items ≡ l.initial.ticks.items ++ flat_map (λ place. tick_within l.from l.to ((l.from / l.step + place) * l.step)) (take l.place-index l.places)
