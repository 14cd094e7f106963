use Rattle.std.proofs.Common.{◌≡◌, map}
use Rattle.omega_net.specs.Numbers.{component_of}
use Rattle.omega_net.specs.Wires.{below}
use Rattle.flat_row.specs.Row.{state_of}
use Rattle.run_reports.proofs.full_queues.states_now.Given as goal

abbrev pub invariant-loop-number : goal.invariant-loop-number
invariant-loop-number l = l.states.items ≡ map (λ c. state_of l.runner.row (component_of l.runner.row.k c)) (below l.number)
