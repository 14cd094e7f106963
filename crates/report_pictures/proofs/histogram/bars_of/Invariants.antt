use Rattle.std.proofs.Common.{◌≡◌}
use Rattle.std.specs.Prelude.{slice_index}
use Rattle.std.specs.List.{flat_map}
use Rattle.omega_net.specs.Wires.{below}
use Rattle.report_pictures.specs.LatencyPictures.{bar_of}
use Rattle.report_pictures.proofs.histogram.bars_of.Given as goal

abbrev pub invariant-loop-latency : goal.invariant-loop-latency
invariant-loop-latency l = l.bars.items ≡ flat_map (λ d. bar_of d (slice_index l.numbers d)) (below l.latency)
