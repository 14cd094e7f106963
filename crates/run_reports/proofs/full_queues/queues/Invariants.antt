use Rattle.std.proofs.Common.{◌≡◌}
use Rattle.std.specs.List.{flat_map}
use Rattle.omega_net.specs.Wires.{below}
use Rattle.run_reports.specs.FullQueues.{queues_of}
use Rattle.run_reports.proofs.full_queues.queues.Given as goal

abbrev pub invariant-loop-place : goal.invariant-loop-place
invariant-loop-place l = l.all.items ≡ flat_map (queues_of l.shape) (below l.place)
