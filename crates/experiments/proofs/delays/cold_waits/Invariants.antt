use Rattle.std.proofs.Common.{◌≡◌}
use Rattle.std.specs.List.{flat_map}
use Rattle.omega_net.specs.Wires.{below}
use Rattle.machine_cells.specs.Run.{run}
use Rattle.machine_cells.specs.Runs.{state_in}
use Rattle.experiments.specs.Delays.{waits_of}
use Rattle.experiments.proofs.delays.cold_waits.Given as goal

abbrev pub invariant-loop-proc : goal.invariant-loop-proc
invariant-loop-proc l = l.numbers.items ≡ flat_map (waits_of l.project (state_in (run l.project)) l.fn.window.from l.fn.window.to) (below l.proc)
